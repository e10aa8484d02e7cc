use Rattle.tokei_stats.proofs.SumLaws.{associates}
use Rattle.tokei_stats.proofs.sum_laws.sums_associate.Goals as goal

pub returns : goal.returns
returns c = λ s t u h k g. associates s t u h k g
