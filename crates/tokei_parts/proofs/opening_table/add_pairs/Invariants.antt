use Rattle.std.proofs.Common.{◌≡◌, ◌++◌, take}
use Rattle.tokei_table_row.specs.RowOf.{pairs_of}
use Rattle.tokei_parts.specs.PlainOpenings.{item_openings}
use Rattle.tokei_parts.specs.Spans.{openings_of}
use Rattle.tokei_parts.proofs.opening_table.add_pairs.Given as goal

abbrev pub invariant-loop-pair : goal.invariant-loop-pair
invariant-loop-pair l = openings_of l.all.items ≡ openings_of l.initial.all.items ++ item_openings l.kind (pairs_of (take l.pair-index l.pairs))
