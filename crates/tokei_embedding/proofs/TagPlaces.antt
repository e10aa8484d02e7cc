-- No element opens at a place where its token doesn't stand.
use Rattle.std.proofs.Common.{◌≡◌, ℕ, false, cond, List, drop, None, sym, ◌∙◌, ap}
use Rattle.tokei_table_row.specs.Bytes.{begins}
use Rattle.tokei_embedding.proofs.Places.{not_first}
use Rattle.tokei_embedding.specs.Tags.{token_of, opening_at, element_of, tag_block}
use Rattle.tokei_embedding.specs.declared.tags.Tag.{Tag}

pub no_tag : (tag : Tag) (part rest here : List ℕ) (k : ℕ) → drop k part ≡ here → begins (token_of tag) here ≡ false → None ≡ tag_block tag part k rest
no_tag tag part rest here k e h =
    sym (ap (λ x. cond x (element_of tag part k rest (opening_at tag part k)) None)
    (not_first (begins (token_of tag)) part k (ap (begins (token_of tag)) e ∙ h)))
