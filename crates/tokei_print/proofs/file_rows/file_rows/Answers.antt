use Rattle.std.proofs.Common.{ℕ, ◌+◌, ◌++◌, drop, filter, string_bytes, sym, ap, ◌∙◌, Bor}
use Rattle.tokei_stats.specs.Reports.{report_of}
use Rattle.tokei_stats.specs.declared.report.Report.{Report}
use Rattle.tokei_print.specs.FileRows.{file_row, file_rows, has_row_alone}
use Rattle.tokei_print.specs.ListedReports.{reports_in}
use Rattle.tokei_print.proofs.Behind.{none_yet, one_more, no_more, one_kept, one_passed, none_kept}
use Rattle.tokei_print.proofs.file_rows.file_rows.Goals as goal
use Rattle.tokei_print.proofs.file_rows.file_rows.Goals.{then-has_row_alone+in_ok-file_row+in_ok-push_str, else-has_row_alone}

pub loop-report-init : goal.loop-report-init
loop-report-init c = none_yet (string_bytes c.new-rows.result) (file_rows c.args.layout.now (filter (has_row_alone c.args.compact) (reports_in c.args.reports.now))) c.new-rows.ensures.bytes

pub loop-report-preserved : goal.loop-report-preserved
loop-report-preserved c =
    let seen = λ (r : Bor Report). report_of r.now in
    let test = has_row_alone c.args.compact in
    let xs = c.args.reports.now in
    let i = c.loop-report.report-index in
    let x = c.report-item.result in
    let rows = string_bytes c.loop-report.rows in
    let text = file_rows c.args.layout.now in
    let left = λ (n : ℕ). filter test (reports_in (drop n xs)) in
    elim c.if-has_row_alone.branch [
      | then-has_row_alone+in_ok-file_row+in_ok-push_str w ↦
          one_more rows (text (filter test (reports_in xs))) (string_bytes c.if-has_row_alone.rows) (file_row c.args.layout.now (seen x)) (text (left i)) (text (left (i + 1)))
          c.loop-report.invariant
          (ap text (one_kept seen xs i x c.loop-report-test.true c.report-item.is test (sym c.has_row_alone.ensures ∙ w.if-has_row_alone.true)))
          (ap string_bytes w.rows-is ∙ w.in_ok-push_str.ensures.bytes ∙ ap (λ t. rows ++ t) (w.deref.ensures ∙ w.in_ok-file_row.ensures))
      | else-has_row_alone w ↦
          ap (λ r. string_bytes r ++ text (left (i + 1))) w.rows-is
          ∙ ap (λ rs. rows ++ text rs) (sym (one_passed seen xs i x c.loop-report-test.true c.report-item.is test (sym c.has_row_alone.ensures ∙ w.if-has_row_alone.false)))
          ∙ c.loop-report.invariant
    ]

pub returns : goal.returns
returns c =
    let test = has_row_alone c.args.compact in
    no_more (string_bytes c.loop-report.rows) (file_rows c.args.layout.now (filter test (reports_in c.args.reports.now)))
    (file_rows c.args.layout.now (filter test (reports_in (drop c.loop-report.report-index c.args.reports.now)))) c.loop-report.invariant
    (ap (file_rows c.args.layout.now) (none_kept (λ (r : Bor Report). report_of r.now) c.args.reports.now c.loop-report.report-index c.loop-report-test.false test))
