use Rattle.std.proofs.Common.{ap, sym, ◌∙◌}
use Rattle.tokei_stats.specs.Statistics.{plus, summaries}
use Rattle.tokei_stats.specs.Seen.{blobs_of, entries_of, sums_of}
use Rattle.tokei_stats.proofs.SumLaws.{plus_associates}
use Rattle.tokei_stats.proofs.stats.CodeStats.+summary_counts.Goals as goal

pub loop-stats-preserved : goal.loop-stats-preserved
loop-stats-preserved t c =
    ap (λ n. plus n (summaries (blobs_of (entries_of c.next.new.self)))) (c.in_ok-sums.ensures.ok ∙ ap (plus (sums_of c.loop-stats.sums)) c.in_ok-inner.ensures.sum)
    ∙ plus_associates _ _ _
    ∙ ap (λ es. plus (sums_of c.loop-stats.sums) (summaries (blobs_of (entries_of es)))) (sym c.in-Some.ensures.steps)
    ∙ c.loop-stats.invariant
