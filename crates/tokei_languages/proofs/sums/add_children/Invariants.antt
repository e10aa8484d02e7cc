use Rattle.std.proofs.Common.{◌≡◌}
use Rattle.tokei_stats.specs.Seen.{sums_of}
use Rattle.tokei_stats.specs.Statistics.{plus}
use Rattle.tokei_languages.specs.Seen.{children_of}
use Rattle.tokei_languages.specs.Summaries.{children_summary}
use Rattle.tokei_languages.proofs.sums.add_children.Given as goal

abbrev pub invariant-loop-reports : goal.invariant-loop-reports
invariant-loop-reports l =
    plus (sums_of l.more) (children_summary (children_of l.reports-iterator))
    ≡ plus (sums_of l.fn.sums) (children_summary (children_of l.children.entries))
