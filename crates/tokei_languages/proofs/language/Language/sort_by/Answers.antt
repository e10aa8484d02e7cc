use Rattle.std.proofs.Common.{◌≡◌, rules, map, ap, ◌∙◌, sym, subst}
use Rattle.std.specs.Ordering.{is_lt}
use Rattle.std.specs.Cmp.{IsStrictWeakOrder}
use Rattle.std.proofs.lemmas.Fn.{always_returns_same}
use Rattle.tokei_languages.specs.Seen.{report_of, reports_of, language_of}
use Rattle.tokei_languages.specs.Sorting.{puts_first, stably_sorted, IsStableSort}
use Rattle.tokei_stats.specs.declared.report.Report.{Report}
use Rattle.tokei_languages.proofs.Ranks.{ranks, ranks_seen}
use Rattle.tokei_languages.proofs.StableSort.{sort_is_stable, only_sort, sort_seen}
use Rattle.tokei_languages.proofs.language.Language.sort_by.Goals as goal

sorted : (c : goal.In_ok-sort_by) → reports_of c.sort_by.new.self ≡ stably_sorted (puts_first c.args.sort) (reports_of c.args.self.now.reports)
sorted c =
    let before = λ (r s : Report). puts_first c.args.sort (report_of r) (report_of s) in
    let o : IsStrictWeakOrder before = ranks_seen report_of (puts_first c.args.sort) (ranks c.args.sort) in
    let answers = always_returns_same _ (λ a r. is_lt r ≡ before a.0.now a.1.0.now) _ (λ a r f' k. search rules) in
    ap (map report_of) (only_sort before o c.args.self.now.reports.items c.sort_by.new.self.items
    (c.in_ok-sort_by.ensures.sorted before o answers) (c.in_ok-sort_by.ensures.stable before o answers))
    ∙ sort_seen report_of (puts_first c.args.sort) c.args.self.now.reports.items

pub returns-clause-ok : goal.returns-clause-ok
returns-clause-ok c = ap (λ rs. record (language_of c.args.self.now) { reports = rs }) (sorted c)

pub returns-clause-stable : goal.returns-clause-stable
returns-clause-stable c =
    subst (IsStableSort (puts_first c.args.sort) (reports_of c.args.self.now.reports)) (sym (sorted c))
    (sort_is_stable (puts_first c.args.sort) (ranks c.args.sort) (reports_of c.args.self.now.reports))
