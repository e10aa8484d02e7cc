use Rattle.std.proofs.Common.{◌≡◌, drop}
use Rattle.tokei_parts.specs.Choice.{opened}
use Rattle.tokei_table_row.specs.RowOf.{pairs_of}
use Rattle.tokei_parts.proofs.choice.opened.Given as goal

abbrev pub invariant-loop-pair : goal.invariant-loop-pair
invariant-loop-pair l = opened (pairs_of (drop l.pair-index l.pairs)) l.text ≡ opened (pairs_of l.pairs) l.text
