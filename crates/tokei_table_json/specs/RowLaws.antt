-- The laws of rows.
use Rattle.std.specs.Prelude.{◌≡◌, ℕ, false, List, [], codes}
use Rattle.serde_json.specs.Data.{Data}
use Rattle.serde_json.specs.Find.{get}
use Rattle.tokei_table_json.specs.Layout.{is_html_kind}
use Rattle.tokei_table_json.specs.Rows.{row_in}
use Rattle.tokei_table_row.specs.Row.{is_html}

-- By the text of its kind a row tells whether the member `kind` is `html`.
abbrev pub KindTellsHtml : Type 0
KindTellsHtml =
    (key : List ℕ) (d : Data) → is_html (row_in key d) ≡ is_html_kind (get (codes "kind") d)

-- A row of another kind has no tags.
abbrev pub OnlyHtmlHasTags : Type 0
OnlyHtmlHasTags =
    (key : List ℕ) (d : Data) → is_html (row_in key d) ≡ false → (row_in key d).contexts ≡ []
