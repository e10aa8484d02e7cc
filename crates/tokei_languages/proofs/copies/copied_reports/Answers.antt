use Rattle.std.proofs.Common.{List, sym, ap, ap₂, ◌∙◌, ◌++◌, ◌∷◌, [], map, take}
use Rattle.std.proofs.lemmas.List.{map-append, take_more, take_all}
use Rattle.tokei_languages.specs.Seen.{report_of}
use Rattle.tokei_languages.specs.Values.{ReportValue}
use Rattle.tokei_languages.proofs.copies.copied_reports.Goals as goal

pub loop-report-preserved : goal.loop-report-preserved
loop-report-preserved c =
    let all = c.args.reports.now in
    let i = c.loop-report.report-index in
    let copy = c.in_ok-try_clone.field-0 in
    let report = c.report-item.result in
    let same = ap₂ (λ name stats. record { name = name; stats = stats }) c.in_ok-try_clone.ensures.name c.in_ok-try_clone.ensures.stats in
    ap (map report_of) c.in_ok-push.ensures.items
    ∙ map-append report_of c.loop-report.copies.items (copy ∷ [])
    ∙ ap₂ (λ (rs : List ReportValue) (r : ReportValue). rs ++ r ∷ []) c.loop-report.invariant same
    ∙ sym (map-append report_of (take i all) (report ∷ []))
    ∙ ap (λ r. map report_of (take i all ++ r ∷ [])) c.report-item.is
    ∙ ap (map report_of) (sym (take_more all i report c.loop-report-test.true))

pub returns-clause-ok : goal.returns-clause-ok
returns-clause-ok c = c.loop-report.invariant ∙ ap (map report_of) (take_all c.loop-report.report-index c.args.reports.now c.loop-report-test.false)
