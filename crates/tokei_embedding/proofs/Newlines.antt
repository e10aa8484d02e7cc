-- No block opens where a newline stands.
use Rattle.std.proofs.Common.{◌≡◌, ℕ, false, ◌&&◌, ◌==◌, cond, List, [], ◌∷◌, ◌++◌, drop, get_or, None, Some, codes, refl, sym, ◌∙◌, ap}
use Rattle.tokei_table_row.specs.Bytes.{begins}
use Rattle.tokei_embedding.proofs.Places.{not_first}
use Rattle.tokei_embedding.specs.BlockLaws.{NoneAtNewline}
use Rattle.tokei_embedding.specs.Fences.{opens_fence, begins_info, info_len, fence_from}
use Rattle.tokei_embedding.specs.Tags.{token_of, opening_at, element_of, tag_block}
use Rattle.tokei_embedding.specs.TargetBlocks.{target_from}
use Rattle.tokei_embedding.specs.declared.tags.Tag.{Tag}
use Rattle.tokei_embedding.specs.declared.tags.Tag.TheVariants.{Script, Style, Template}

other_byte : (c : ℕ) (token w t tail : List ℕ) → (c == 10) ≡ false → 10 ∷ t ≡ w ++ tail → begins (c ∷ token) w ≡ false
other_byte c token [] t tail h e = refl
other_byte c token (b ∷ w) t tail h e = ap (λ x. (c == x) && begins token w) (sym (ap (λ l. get_or l 0 0) e)) ∙ ap (λ x. x && begins token w) h

no_token : (tag : Tag) (w t tail : List ℕ) → 10 ∷ t ≡ w ++ tail → begins (token_of tag) w ≡ false
no_token Script w t tail e = other_byte 60 (codes "script") w t tail refl e
no_token Style w t tail e = other_byte 60 (codes "style") w t tail refl e
no_token Template w t tail e = other_byte 60 (codes "template") w t tail refl e

no_tag : (part t tail : List ℕ) (k : ℕ) → 10 ∷ t ≡ drop k part ++ tail → (tag : Tag) → tag_block tag part k (10 ∷ t) ≡ None
no_tag part t tail k e tag =
    ap (λ x. cond x (element_of tag part k (10 ∷ t) (opening_at tag part k)) None)
    (not_first (begins (token_of tag)) part k (no_token tag (drop k part) t tail e))

pub none_at_newline : (part t tail : List ℕ) (k : ℕ) → 10 ∷ t ≡ drop k part ++ tail → NoneAtNewline part t k
none_at_newline part t tail k e =
    let here = drop k part in
    let fenced : opens_fence here ≡ false = ap (λ x. x && begins_info (drop 3 here)) (other_byte 96 (codes "``") here t tail refl e) in
    record {
      fence = ap (λ x. cond x (Some (fence_from (info_len here) (10 ∷ t))) None) (not_first opens_fence part k fenced);
      tag = no_tag part t tail k e;
      doc = refl;
      target = ap (λ x. cond x (Some (target_from (10 ∷ t))) None) (not_first (begins (codes "{=")) part k (other_byte 123 (codes "=") here t tail refl e));
    }
