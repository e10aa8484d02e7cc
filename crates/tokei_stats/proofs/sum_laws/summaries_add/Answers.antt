use Rattle.tokei_stats.proofs.SumLaws.{sum_summary}
use Rattle.tokei_stats.proofs.sum_laws.summaries_add.Goals as goal

pub returns : goal.returns
returns c = λ s t h k. sum_summary s t h k
