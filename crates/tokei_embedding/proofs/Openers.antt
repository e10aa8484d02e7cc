-- No block opens where its opener doesn't stand.
use Rattle.std.proofs.Common.{◌≡◌, ℕ, suc, Bool, true, false, ◌&&◌, ◌||◌, cond, List, [], ◌∷◌, drop, codes, Option, None, Some, option_map, refl, sym, ap}
use Rattle.tokei_table_row.specs.Bytes.{is_blank, trim_start, begins, begins_with_one}
use Rattle.tokei_table_row.specs.FirstOpener.{first_opener}
use Rattle.tokei_embedding.proofs.FenceBlocks.{no_fence}
use Rattle.tokei_embedding.proofs.TagPlaces.{no_tag}
use Rattle.tokei_embedding.proofs.TargetPlaces.{no_target}
use Rattle.tokei_embedding.specs.BlockLaws.{BeginWithOpeners}
use Rattle.tokei_embedding.specs.DocComments.{doc_of, doc_marks, lines_of, first_line, front_mark, mark_of, marked_len}
use Rattle.tokei_embedding.specs.Fences.{begins_info}

none_first : (x : Bool) (o : Option ℕ) → cond x (Some 0) (option_map suc o) ≡ None → x ≡ false
none_first true o h = absurd (cc)
none_first false o h = refl

none_later : (x : Bool) (o : Option ℕ) → cond x (Some 0) (option_map suc o) ≡ None → o ≡ None
none_later true o h = absurd (cc)
none_later false None h = refl
none_later false (Some k) h = absurd (cc)

no_front : (t : List ℕ) → begins_with_one doc_marks t ≡ false → front_mark t ≡ None
unfolding begins_with_one
no_front t h = by (begins (codes "///") t) (begins (codes "//!") t) h
  where
    by : (x y : Bool) → (x || (y || false)) ≡ false → cond x (Some (codes "///")) (cond y (Some (codes "//!")) None) ≡ None
    by true y e = absurd (cc)
    by false true e = absurd (cc)
    by false false e = refl

front_step : (x : Bool) (b : ℕ) (t : List ℕ) → mark_of t ≡ None → front_mark (b ∷ t) ≡ None → front_mark (cond x (trim_start t) (b ∷ t)) ≡ None
front_step true b t behind here = behind
front_step false b t behind here = here

-- a line without a mark begins with none behind its front blanks
no_mark : (line : List ℕ) → first_opener doc_marks line ≡ None → mark_of line ≡ None
no_mark [] h = refl
no_mark (b ∷ t) h =
    let here : begins_with_one doc_marks (b ∷ t) ≡ false = none_first (begins_with_one doc_marks (b ∷ t)) (first_opener doc_marks t) h in
    let later : first_opener doc_marks t ≡ None = none_later (begins_with_one doc_marks (b ∷ t)) (first_opener doc_marks t) h in
    front_step (is_blank b) b t (no_mark t later) (no_front (b ∷ t) here)

pub begin_with_openers : (part rest : List ℕ) (place : ℕ) → BeginWithOpeners part rest place
begin_with_openers part rest place =
    let here = drop place part in
    record {
      fences = λ h. sym (no_fence part rest here place refl (ap (λ x. x && begins_info (drop 3 here)) h));
      tags = λ g h. sym (no_tag g part rest here place refl h);
      docs = λ h. ap (option_map (λ mark. doc_of rest (marked_len mark (lines_of rest)))) (no_mark (first_line rest) h);
      targets = λ h. sym (no_target part rest here place refl h);
    }
