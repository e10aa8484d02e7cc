use Rattle.std.proofs.Common.{◌≡◌, ℕ, ◌+◌, ◌++◌, ◌∷◌, drop, filter, not, false, string_bytes, sym, ap, ◌∙◌, subst, Bor, Err, rules}
use Rattle.tokei_stats.specs.Reports.{ReportValue, report_of}
use Rattle.tokei_stats.specs.declared.report.Report.{Report}
use Rattle.tokei_print.specs.FileRows.{file_block, file_blocks, has_row_alone}
use Rattle.tokei_print.specs.FilesFit.{FileBlocksFit}
use Rattle.tokei_print.specs.ListedReports.{reports_in}
use Rattle.tokei_languages.specs.Names.{name_in}
use Rattle.tokei_print.proofs.Behind.{none_yet, one_more, no_more, one_kept, one_passed, none_kept}
use Rattle.tokei_stats.specs.declared.error.CountError.TheVariants.{Overflow}
use Rattle.tokei_print.proofs.file_rows.file_blocks.Goals as goal
use Rattle.tokei_print.proofs.file_rows.file_blocks.Goals.{then-not-has_row_alone+in_ok-rows, else-not-has_row_alone}

pub loop-report-init : goal.loop-report-init
loop-report-init c = (none_yet (string_bytes c.new-rows.result) _ c.new-rows.ensures.bytes, λ f. f)

pub loop-report-preserved : goal.loop-report-preserved
loop-report-preserved c =
    let seen = λ (r : Bor Report). report_of r.now in
    let test = λ (r : ReportValue). not (has_row_alone c.args.compact r) in
    let xs = c.args.reports.now in
    let i = c.loop-report.report-index in
    let x = c.report-item.result in
    let rows = string_bytes c.loop-report.rows in
    let block = file_block c.args.layout.now (name_in c.args.language.table.now) c.args.language.inaccurate c.args.language.name.now in
    let text = file_blocks c.args.layout.now (name_in c.args.language.table.now) c.args.language.inaccurate c.args.language.name.now in
    let left = λ (n : ℕ). filter test (reports_in (drop n xs)) in
    elim c.if-not-has_row_alone.branch [
      | then-not-has_row_alone+in_ok-rows w ↦
          let kept : left i ≡ seen x ∷ left (i + 1) =
          one_kept seen xs i x c.loop-report-test.true c.report-item.is test (ap not (sym c.has_row_alone.ensures ∙ w.if-not-has_row_alone.true)) in (
            ap (λ a. string_bytes c.if-not-has_row_alone.rows ++ text a (left (i + 1))) w.is_first-is
                ∙ one_more rows (text c.args.first (left 0)) (string_bytes c.if-not-has_row_alone.rows) (block c.loop-report.is_first (seen x))
                (text c.loop-report.is_first (left i)) (text false (left (i + 1))) c.loop-report.invariant.0
                (ap (text c.loop-report.is_first) kept)
                (ap string_bytes w.rows-is ∙ w.in_ok-rows.ensures.ok _ w.file_block.ensures.ok),
            λ f. (subst FileBlocksFit kept (c.loop-report.invariant.1 f)).1,
          )
      | else-not-has_row_alone w ↦
          let passed : left i ≡ left (i + 1) =
          one_passed seen xs i x c.loop-report-test.true c.report-item.is test (ap not (sym c.has_row_alone.ensures ∙ w.if-not-has_row_alone.false)) in (
            ap (λ r. string_bytes r ++ text c.if-not-has_row_alone.is_first (left (i + 1))) w.rows-is
                ∙ ap (λ a. rows ++ text a (left (i + 1))) w.is_first-is
                ∙ ap (λ rs. rows ++ text c.loop-report.is_first rs) (sym passed) ∙ c.loop-report.invariant.0,
            λ f. subst FileBlocksFit passed (c.loop-report.invariant.1 f),
          )
    ]

pub returns-clause-ok : goal.returns-clause-ok
returns-clause-ok c =
    let test = λ (r : ReportValue). not (has_row_alone c.args.compact r) in
    let text = file_blocks c.args.layout.now (name_in c.args.language.table.now) c.args.language.inaccurate c.args.language.name.now in
    no_more (string_bytes c.loop-report.rows) (text c.args.first (filter test (reports_in c.args.reports.now)))
    (text c.loop-report.is_first (filter test (reports_in (drop c.loop-report.report-index c.args.reports.now)))) c.loop-report.invariant.0
    (ap (text c.loop-report.is_first) (none_kept (λ (r : Bor Report). report_of r.now) c.args.reports.now c.loop-report.report-index c.loop-report-test.false test))

pub returns-in_err-rows-clause-overflow : goal.returns-in_err-rows-clause-overflow
returns-in_err-rows-clause-overflow c = λ t f.
    let seen = λ (r : Bor Report). report_of r.now in
    let test = λ (r : ReportValue). not (has_row_alone c.args.compact r) in
    let kept = one_kept seen c.args.reports.now c.loop-report.report-index c.report-item.result c.loop-report-test.true c.report-item.is test
    (ap not (sym c.has_row_alone.ensures ∙ c.if-not-has_row_alone.true)) in
    let same : c.in_err-rows.field-0.0 ≡ Overflow = search rules in
    c.file_block.ensures.overflow (c.in_err-rows.ensures.overflow (ap (λ x. Err x) same)) (subst FileBlocksFit kept (c.loop-report.invariant.1 f)).0
