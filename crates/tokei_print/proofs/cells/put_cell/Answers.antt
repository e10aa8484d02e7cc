use Rattle.std.proofs.Common.{arith}
use Rattle.tokei_print.proofs.Padding.{styled_right}
use Rattle.tokei_print.proofs.cells.put_cell.Goals as goal

pub returns : goal.returns
returns c = grind (arith, styled_right)
