use Rattle.std.proofs.Common.{arith}
use Rattle.tokei_stats.proofs.Padding.{padded_right}
use Rattle.tokei_stats.proofs.counts_cells.CountsCellsDisplay.fmt.Goals as goal

pub returns-clause-writes : goal.returns-clause-writes
returns-clause-writes g c = grind (arith, padded_right)
