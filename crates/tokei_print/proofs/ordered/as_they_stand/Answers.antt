use Rattle.std.proofs.Common.{◌+◌, ◌∷◌, [], drop, map, ap, ◌∙◌, Bor}
use Rattle.std.proofs.lemmas.List.{map-append}
use Rattle.tokei_stats.specs.Reports.{report_of}
use Rattle.tokei_stats.specs.declared.report.Report.{Report}
use Rattle.tokei_print.specs.ListedReports.{reports_in}
use Rattle.tokei_print.proofs.Behind.{none_yet, one_more, no_more, one_seen, none_seen}
use Rattle.tokei_print.proofs.ordered.as_they_stand.Goals as goal

pub loop-report-init : goal.loop-report-init
loop-report-init c = none_yet (reports_in c.in_ok-ordered.ordered.items) (map report_of c.args.reports.now) (ap reports_in c.in_ok-ordered.ensures.items)

pub loop-report-preserved : goal.loop-report-preserved
loop-report-preserved c =
    let xs = c.args.reports.now in
    let i = c.loop-report.report-index in
    one_more (reports_in c.loop-report.ordered.items) (map report_of xs) (reports_in c.push.new.self.items) (report_of c.report-item.result ∷ [])
    (map report_of (drop i xs)) (map report_of (drop (i + 1) xs)) c.loop-report.invariant
    (one_seen report_of xs i c.report-item.result c.loop-report-test.true c.report-item.is)
    (ap reports_in c.in_ok-push.ensures.items ∙ map-append (λ (r : Bor Report). report_of r.now) c.loop-report.ordered.items _)

pub returns : goal.returns
returns c =
    no_more (reports_in c.loop-report.ordered.items) (map report_of c.args.reports.now) (map report_of (drop c.loop-report.report-index c.args.reports.now))
    c.loop-report.invariant (none_seen report_of c.args.reports.now c.loop-report.report-index c.loop-report-test.false)
