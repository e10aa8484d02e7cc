use Rattle.tokei_stats.proofs.SumsOrdered.{sum_ordered}
use Rattle.tokei_stats.proofs.sum_laws.sums_stay_ordered.Goals as goal

pub returns : goal.returns
returns c = λ s t h k. sum_ordered s t h k
