use Rattle.std.proofs.Common.{arith}
use Rattle.tokei_stats.proofs.Padding.{styled_left}
use Rattle.tokei_print.proofs.Padding.{styled_right}
use Rattle.tokei_print.proofs.stream_rows.stream_row.Goals as goal

pub returns : goal.returns
returns c = grind (arith, styled_right, styled_left)
