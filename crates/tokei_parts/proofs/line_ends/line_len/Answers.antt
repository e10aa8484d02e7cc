use Rattle.std.proofs.Common.{◌≡◌, ℕ, List, length, drop, ap, arith, inl, inr}
use Rattle.tokei_table_row.specs.Bytes.{line_len}
use Rattle.tokei_parts.proofs.LineEnd.{drop_none}
use Rattle.tokei_parts.proofs.LineEnds.{below_or}
use Rattle.tokei_parts.proofs.PartFronts.{line_len_within}
use Rattle.tokei_parts.proofs.line_ends.line_len.Goals as goal

pub returns-clause-value : goal.returns-clause-value
returns-clause-value c =
    let text : List ℕ = c.args.text.now in
    let e = c.newline_before.ensures in
    let same : line_len (drop 0 text) ≡ line_len text = ap line_len (drop_none text) in
    elim (below_or c.newline_before.result (length text)) [
      | inl h ↦ omega (arith, e.found h, same)
      | inr h ↦ omega (arith, h, e.high, e.line, same, line_len_within text)
    ]
