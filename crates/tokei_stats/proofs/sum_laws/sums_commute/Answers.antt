use Rattle.tokei_stats.proofs.SumLaws.{commutes}
use Rattle.tokei_stats.proofs.sum_laws.sums_commute.Goals as goal

pub returns : goal.returns
returns c = λ s t h k. commutes s t h k
