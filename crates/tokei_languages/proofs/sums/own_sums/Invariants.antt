use Rattle.std.proofs.Common.{◌≡◌, map, drop}
use Rattle.tokei_stats.specs.Seen.{sums_of}
use Rattle.tokei_stats.specs.Statistics.{plus}
use Rattle.tokei_languages.specs.Renewing.{own_sum}
use Rattle.tokei_languages.specs.Seen.{report_of}
use Rattle.tokei_languages.proofs.sums.own_sums.Given as goal

abbrev pub invariant-loop-report : goal.invariant-loop-report
invariant-loop-report l = plus (sums_of l.sums) (own_sum (map report_of (drop l.report-index l.reports))) ≡ own_sum (map report_of l.reports)
