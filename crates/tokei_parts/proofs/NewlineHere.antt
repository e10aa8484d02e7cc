-- The place at which a line's newline stands.
use Rattle.std.proofs.Common.{◌≡◌, ◌∙◌, ◌<◌, ap, List, ℕ, ◌∷◌, None, length, drop, arith, length-drop}
use Rattle.tokei_table_row.specs.Bytes.{line_len}
use Rattle.tokei_parts.specs.Places.{IsAt, block_here, text_of}
use Rattle.tokei_parts.specs.ReadingOf.{blocks_of}
use Rattle.tokei_parts.specs.declared.place.Place.{Place}
use Rattle.tokei_parts.proofs.Blocks.{blocks_fit}
use Rattle.tokei_parts.proofs.Leading.{at_newline}

-- a newline stands at the end of a line that isn't that of the text
pub newline_here : (p : Place) → IsAt p → p.at ≡ p.end → p.at < length (text_of p)
    → drop p.at (text_of p) ≡ 10 ∷ drop 1 (drop p.at (text_of p))
newline_here p here last some =
    let u : List ℕ = drop p.at (text_of p) in
    let none : line_len u ≡ 0 = omega (arith, here.line, last) in
    at_newline u none (omega (arith, length-drop p.at (text_of p), some))

-- no child opens there
pub childless_here : (p : Place) → IsAt p → p.at ≡ p.end → p.at < length (text_of p) → block_here p ≡ None
childless_here p here last some =
    let u : List ℕ = drop p.at (text_of p) in
    ap (blocks_of p.reading.now p.behind_child) (newline_here p here last some)
    ∙ (blocks_fit p.reading.now).in_line.none p.behind_child (drop 1 u)
