use Rattle.std.proofs.Common.{◌≡◌, ◌<◌, ◌++◌, IfOk, length, string_bytes, ap, ap₂, arith, subst, ◌∙◌, sym}
use Rattle.std.proofs.lemmas.Bool.Decides.{nat_tests}
use Rattle.tokei_print.specs.FilesAndCounts.{files_and_counts}
use Rattle.tokei_print.specs.Layouts.{separator_in}
use Rattle.tokei_stats.specs.Statistics.{Counts}
use Rattle.tokei_print.proofs.WithReports.{of_none, of_some}
use Rattle.tokei_languages.proofs.Refusals.{no_refusal}
use Rattle.tokei_print.specs.LinesFit.{LinesFit}
use Rattle.tokei_print.proofs.inside.child_row.Goals as goal

pub returns-then-is_empty-clause-ok : goal.returns-then-is_empty-clause-ok
returns-then-is_empty-clause-ok c =
    let none : length c.args.reports.now ≡ 0 = grind (arith, nat_tests, c.is_empty.ensures, c.if-is_empty.true) in
    c.in_ok-row.ensures ∙ of_none c.args.layout.now c.args.name.now c.args.reports.now none

pub returns-else-is_empty-clause-ok : goal.returns-else-is_empty-clause-ok
returns-else-is_empty-clause-ok c =
    let some : 0 < length c.args.reports.now = grind (arith, nat_tests, c.is_empty.ensures, c.if-is_empty.false) in
    let counts = λ (n : Counts). files_and_counts (separator_in c.args.layout.now) (length c.args.reports.now) n in
    subst (λ b. IfOk c.files_and_counts.result (λ s. string_bytes s ≡ b))
    (ap₂ (λ x y. x ++ y) c.in_ok-row.ensures (ap counts c.in_ok-sums.ensures.sum)
    ∙ of_some c.args.layout.now c.args.name.now c.args.reports.now some)
    c.files_and_counts.ensures.ok

pub returns-then-is_empty-clause-overflow : goal.returns-then-is_empty-clause-overflow
returns-then-is_empty-clause-overflow c = λ t f. no_refusal t

pub returns-else-is_empty-clause-overflow : goal.returns-else-is_empty-clause-overflow
returns-else-is_empty-clause-overflow c = λ t f.
    c.files_and_counts.ensures.overflow t (subst LinesFit (sym c.in_ok-sums.ensures.sum) f)
