use Rattle.tokei_stats.specs.Statistics.{summary}
use Rattle.tokei_stats.proofs.SumLaws.{plus_none}
use Rattle.tokei_stats.proofs.sum_laws.summarising_once_suffices.Goals as goal

pub returns : goal.returns
returns c = λ s. plus_none (summary s)
