use Rattle.tokei_stats.proofs.SumLaws.{neutral, neutral_left}
use Rattle.tokei_stats.proofs.sum_laws.empty_is_neutral.Goals as goal

pub returns : goal.returns
returns c = λ s h. (neutral s, neutral_left s h)
