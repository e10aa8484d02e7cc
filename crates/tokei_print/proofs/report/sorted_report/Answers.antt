use Rattle.std.proofs.Common.{IfOk, sym, ap, subst, ◌∙◌}
use Rattle.tokei_languages.specs.Seen.{languages_of}
use Rattle.tokei_languages.specs.Sorting.{sorted_languages}
use Rattle.tokei_print.specs.ListedLanguages.{languages_in}
use Rattle.tokei_print.specs.PrintedReports.{IsReport}
use Rattle.tokei_print.specs.ReportSums.{ReportFits}
use Rattle.tokei_print.specs.Sorted.{in_list_order, listed_by}
use Rattle.tokei_print.proofs.report.sorted_report.Goals as goal

pub returns-clause-text : goal.returns-clause-text
returns-clause-text c =
    let sort = c.args.sort in
    let listed = ap languages_in c.deref.ensures.value ∙ c.in_ok-all.ensures ∙ ap (in_list_order sort c.args.style.reverse) c.in_ok-languages.ensures.ok in
    subst (λ l. IfOk c.text_in_memory.result (λ v. IsReport c.args.table.now c.args.style l (sorted_languages sort (languages_of c.args.languages)) v.items)) listed
    (subst (λ l. IfOk c.text_in_memory.result (λ v. IsReport c.args.table.now c.args.style (languages_in c.deref.result.now) l v.items))
    c.in_ok-languages.ensures.ok c.text_in_memory.ensures.text)

pub returns-clause-overflow : goal.returns-clause-overflow
returns-clause-overflow c = λ t f.
    let sort = c.args.sort in
    let listed = ap languages_in c.deref.ensures.value ∙ c.in_ok-all.ensures ∙ ap (in_list_order sort c.args.style.reverse) c.in_ok-languages.ensures.ok in
    c.text_in_memory.ensures.overflow t
    (subst (λ l. ReportFits c.args.style l (languages_of c.in_ok-languages.languages)) (sym listed)
    (subst (λ l. ReportFits c.args.style (listed_by sort c.args.style.reverse (languages_of c.args.languages)) l) (sym c.in_ok-languages.ensures.ok) f))
