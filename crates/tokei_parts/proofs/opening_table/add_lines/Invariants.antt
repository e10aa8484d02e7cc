use Rattle.std.proofs.Common.{◌≡◌, ◌++◌, take}
use Rattle.tokei_table_row.specs.RowOf.{tokens_of}
use Rattle.tokei_parts.specs.PlainOpenings.{line_openings}
use Rattle.tokei_parts.specs.Spans.{openings_of}
use Rattle.tokei_parts.proofs.opening_table.add_lines.Given as goal

abbrev pub invariant-loop-token : goal.invariant-loop-token
invariant-loop-token l = openings_of l.all.items ≡ openings_of l.initial.all.items ++ line_openings (tokens_of (take l.token-index l.tokens))
