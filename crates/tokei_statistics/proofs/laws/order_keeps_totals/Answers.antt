use Rattle.tokei_statistics.proofs.Totals.{order_keeps_totals}
use Rattle.tokei_statistics.proofs.laws.order_keeps_totals.Goals as goal

pub returns : goal.returns
returns c = order_keeps_totals
