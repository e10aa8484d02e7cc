-- The texts above columns, as the definitions lay them out.
use Rattle.std.proofs.Common.{◌≡◌, ℕ, ◌-◌, ◌∷◌, ◌++◌, codes, append_assoc, refl, sym, ap, ◌∙◌}
use Rattle.std.specs.Fmt.{char_count}
use Rattle.tokei_stats.specs.Places.{left_in}
use Rattle.tokei_table.specs.Bytes.{space}
use Rattle.tokei_print.specs.Cells.{right_in, four_cells}
use Rattle.tokei_print.specs.Heading.{header}
use Rattle.tokei_print.specs.Rules.{newline, row}
use Rattle.tokei_print.specs.StreamRows.{stream_heading}
use Rattle.tokei_print.specs.declared.heading.TheConstants.{NAMES}
use Rattle.tokei_print.specs.declared.stream_rows.TheConstants.{HEADING}

pub heading_text : HEADING.now ≡ stream_heading
unfolding char_count
heading_text = refl

column_names_text : NAMES.now ≡ space ∷ (right_in 14 (codes "Files") ++ four_cells (codes "Lines") (codes "Code") (codes "Comments") (codes "Blanks"))
unfolding char_count
column_names_text = refl

pub header_text : (n : ℕ) → row n ++ (space ∷ (left_in (n - 69) (codes "Language") ++ (NAMES.now ++ (newline ++ row n)))) ≡ header n
header_text n =
    ap (λ t. row n ++ (space ∷ (left_in (n - 69) (codes "Language") ++ (t ++ (newline ++ row n))))) column_names_text
    ∙ ap (λ t. row n ++ (space ∷ t)) (sym (append_assoc (left_in (n - 69) (codes "Language"))
    (space ∷ (right_in 14 (codes "Files") ++ four_cells (codes "Lines") (codes "Code") (codes "Comments") (codes "Blanks"))) (newline ++ row n)))
