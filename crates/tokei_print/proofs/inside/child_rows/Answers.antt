use Rattle.std.proofs.Common.{◌≡◌, ℕ, List, ◌++◌, map, string_bytes, sym, ap, ◌∙◌, subst, Vec, Global, Err, rules}
use Rattle.tokei_stats.specs.Reports.{children_of, report_of, reports_summary}
use Rattle.tokei_stats.specs.declared.report.Report.{Report}
use Rattle.tokei_print.specs.ChildRows.{child_row, child_rows}
use Rattle.tokei_print.specs.ChildrenFit.{ChildrenFit}
use Rattle.tokei_languages.specs.Names.{name_in}
use Rattle.tokei_print.proofs.Behind.{one_more, no_more}
use Rattle.tokei_stats.specs.declared.error.CountError.TheVariants.{Overflow}
use Rattle.tokei_print.specs.LinesFit.{LinesFit}
use Rattle.tokei_print.proofs.inside.child_rows.Goals as goal

pub loop-language-init : goal.loop-language-init
loop-language-init c =
    let begun : c.into_iter-language-iterator.result ≡ c.args.children.now.entries = c.into_iter-language-iterator.ensures.into_iter_gives ∙ c.iter-language-items.ensures.rest in (
      ap (λ t. t ++ child_rows c.args.layout.now (name_in c.args.table.now) (children_of c.into_iter-language-iterator.result)) c.new-rows.ensures.bytes
          ∙ ap (λ es. child_rows c.args.layout.now (name_in c.args.table.now) (children_of es)) begun,
      subst (λ es. ChildrenFit (children_of es)) (sym begun),
    )

pub loop-language-preserved : goal.loop-language-preserved
loop-language-preserved c =
    let rows = string_bytes c.loop-language.rows in
    let row = child_row c.args.layout.now in
    let text = λ (es : List (ℕ × Vec Report Global)). child_rows c.args.layout.now (name_in c.args.table.now) (children_of es) in (
      one_more rows (text c.args.children.now.entries) (string_bytes c.in_ok-rows.rows)
          (row (name_in c.args.table.now c.in-Some.language.now) (map report_of c.in-Some.reports.now.items))
          (text c.loop-language.language-iterator) (text c.next.new.self) c.loop-language.invariant.0
          (ap text c.in-Some.ensures.steps)
          (c.in_ok-rows.ensures.ok _ c.child_row-row.ensures.ok
          ∙ ap (λ n. rows ++ row n (map report_of c.deref.result.now)) c.name_of.ensures
          ∙ ap (λ rs. rows ++ row (name_in c.args.table.now c.in-Some.language.now) (map report_of rs)) c.deref.ensures.value),
      λ f. (subst (λ es. ChildrenFit (children_of es)) c.in-Some.ensures.steps (c.loop-language.invariant.1 f)).1,
    )

pub returns-clause-ok : goal.returns-clause-ok
returns-clause-ok c =
    let text = λ (es : List (ℕ × Vec Report Global)). child_rows c.args.layout.now (name_in c.args.table.now) (children_of es) in
    no_more (string_bytes c.loop-language.rows) (text c.args.children.now.entries) (text c.loop-language.language-iterator) c.loop-language.invariant.0 (ap text c.in-None.ensures.steps.0)

pub returns-in_err-rows-clause-overflow : goal.returns-in_err-rows-clause-overflow
returns-in_err-rows-clause-overflow c = λ t f.
    let same : c.in_err-rows.field-0.0 ≡ Overflow = search rules in
    let left = subst (λ es. ChildrenFit (children_of es)) c.in-Some.ensures.steps (c.loop-language.invariant.1 f) in
    c.child_row-row.ensures.overflow (c.in_err-rows.ensures.overflow (ap (λ x. Err x) same))
    (subst (λ rs. LinesFit (reports_summary (map report_of rs))) (sym c.deref.ensures.value) left.0)
