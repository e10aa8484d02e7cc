-- What the text of a row's kind tells.
use Rattle.std.proofs.Common.{◌≡◌, ℕ, List, [], false, Option, None, Some, codes, refl, sym, ap, ◌∙◌}
use Rattle.serde_json.specs.Data.{Data, string}
use Rattle.serde_json.specs.Find.{get}
use Rattle.tokei_table_row.specs.Row.{is_html, is_html_text}
use Rattle.tokei_table_json.specs.Layout.{is_html_kind}
use Rattle.tokei_table_json.specs.Rows.{kind_at, tags_at, row_in}

text_tells : (member : Option Data) → is_html_text (kind_at member) ≡ is_html_kind member
text_tells None = refl
text_tells (Some (string t)) = refl
text_tells (Some d) = refl

no_tags : (member : Option Data) → tags_at false member ≡ []
no_tags None = refl
no_tags (Some d) = refl

pub kind_tells : (key : List ℕ) (d : Data) → is_html (row_in key d) ≡ is_html_kind (get (codes "kind") d)
unfolding row_in
kind_tells key d = text_tells (get (codes "kind") d)

pub tags_of_html : (key : List ℕ) (d : Data) → is_html (row_in key d) ≡ false → (row_in key d).contexts ≡ []
unfolding row_in
tags_of_html key d e =
    ap (λ html. tags_at html (get (codes "contexts") d)) (sym (text_tells (get (codes "kind") d)) ∙ e)
    ∙ no_tags (get (codes "contexts") d)
