use Rattle.std.proofs.Common.{refl}
use Rattle.tokei_stats.specs.Ordered.{IsOrdered}
use Rattle.tokei_stats.specs.Statistics.{Statistics, sum}
use Rattle.tokei_stats.specs.Statistics.Statistics.{node}
use Rattle.tokei_stats.specs.SumLaws.{HoldsBoth}
use Rattle.tokei_stats.proofs.SumsOrdered.{add_at}
use Rattle.tokei_stats.proofs.sum_laws.sums_hold_both.Goals as goal

holds : (s t : Statistics) → IsOrdered t → HoldsBoth s t (sum s t)
holds (node n bs) (node m cs) h = record { numbers = refl; languages = λ k. add_at bs cs h k }

pub returns : goal.returns
returns c = λ s t h. holds s t h
