-- The lines that are left of a text, where no opener is left and the language has no comments, are
-- counted by their fronts.
use Rattle.std.proofs.Common.{◌≡◌, ℕ, ◌+◌, ◌<◌, ◌==◌, ◌&&◌, ◌||◌, cond, Bool, true, false, List, [], ◌∷◌, length, take, drop, take_all, None, refl, sym, ◌∙◌, ap, arith}
use Rattle.std.proofs.lemmas.Bool.Decides.{Decides-eqb}
use Rattle.tokei_bytes.specs.Lines.{front_count, line_count}
use Rattle.tokei_table.specs.Bytes.{all_blank, trim}
use Rattle.tokei_table.specs.Row.{Pair, Row}
use Rattle.tokei_parts.specs.Choice.{any_begins}
use Rattle.tokei_parts.specs.Class.{class_of, encloses, head_of}
use Rattle.tokei_parts.specs.Glance.{opener_place}
use Rattle.tokei_embedding.specs.DocComments.{first_line}
use Rattle.tokei_parts.specs.ReadingOf.{row_in, openers_in}
use Rattle.tokei_parts.specs.Seen.{chain_of}
use Rattle.tokei_parts.specs.declared.class.Class.TheVariants.{Blank, Code, Comment}
use Rattle.tokei_parts.specs.declared.reading.Reading.{Reading}
use Rattle.tokei_count.specs.NoComments.{has_no_comments, counts_in}
use Rattle.tokei_count.specs.UnderWay.{IsUnderWay}
use Rattle.tokei_count.specs.declared.text_reading.ReadSoFar.{ReadSoFar}
use Rattle.tokei_stats.specs.Seen.{sums_of}
use Rattle.tokei_stats.specs.declared.sums.Sums.{Sums}
use Rattle.tokei_count.proofs.LinesBefore.{class_by, all_before}
use Rattle.tokei_count.proofs.UnderWay.{gone_on}

first_holds : (x y : Bool) → (x && y) ≡ true → x ≡ true
first_holds true y h = refl
first_holds false y h = cc

none_of_some : (k : ℕ) → 0 < k → (k == 0) ≡ true → ⊥
none_of_some k some h = let e : k ≡ 0 = (Decides-eqb k 0).0 h in absurd (omega (arith, e, some))

class_told : (g : Row) (docs_are_comments : Bool) (t : List ℕ) → has_no_comments g ≡ true
    → class_of g docs_are_comments (record { begun = None; bytes = t; ended = None }) ≡ class_by g.literate (all_blank t)
unfolding class_of
class_told g docs_are_comments t h = by_lists g.line_comment g.multi_line_comments g.nested_comments h (all_blank t) g.literate (head_of g t) (trim t)
  where
    by_lists : (ls : List (List ℕ)) (ms ns : List Pair) → ((length ls == 0) && ((length ms == 0) && (length ns == 0))) ≡ true → (blank literate : Bool) (head trimmed : List ℕ)
        → cond blank Blank (cond literate Comment (cond (any_begins ls head) Comment (cond (encloses ms trimmed || encloses ns trimmed) Comment Code))) ≡ class_by literate blank
    by_lists [] [] [] h blank literate head trimmed = refl
    by_lists [] [] (n ∷ ns) h blank literate head trimmed = absurd (none_of_some (length (n ∷ ns)) (omega arith) h)
    by_lists [] (m ∷ ms) ns h blank literate head trimmed = absurd (none_of_some (length (m ∷ ms)) (omega arith) (first_holds (length (m ∷ ms) == 0) (length ns == 0) h))
    by_lists (l ∷ ls) ms ns h blank literate head trimmed = absurd (none_of_some (length (l ∷ ls)) (omega arith) (first_holds (length (l ∷ ls) == 0) ((length ms == 0) && (length ns == 0)) h))

-- all lines that are left, by what was counted of them
pub all_left : (r : Reading) (p : ReadSoFar) → r.skips ≡ true → chain_of p.stack.items ≡ [] → has_no_comments (row_in r) ≡ true
    → (all : Sums) (blank solid : ℕ) → IsUnderWay r p → length r.text.now ≡ p.start + opener_place (openers_in r) (drop p.start r.text.now)
    → solid ≡ front_count true (drop p.start r.text.now) → blank + solid ≡ line_count (drop p.start r.text.now) → sums_of all ≡ counts_in (row_in r).literate blank solid
    → IsUnderWay r (gone_on p all (length r.text.now))
all_left r p skipped plain bare all blank solid way next is whole sums =
    let whole_text : take (length r.text.now) r.text.now ≡ r.text.now = take_all (length r.text.now) r.text.now (omega arith) in
    all_before r p skipped plain (length r.text.now) (length r.text.now) (omega arith) (omega arith)
    (λ at low some. ap (λ t. first_line (drop at t)) whole_text)
    (λ at low some. class_told (row_in r) r.docs_are_comments (first_line (drop at r.text.now)) bare)
    all blank solid way way.within next
    (is ∙ ap (λ t. front_count true (drop p.start t)) (sym whole_text))
    (whole ∙ ap (λ t. line_count (drop p.start t)) (sym whole_text)) sums
