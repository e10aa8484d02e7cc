use Rattle.std.proofs.Common.{◌≡◌, map, rules, ap, sym, ◌∙◌}
use Rattle.std.specs.Borrow.{Bor}
use Rattle.std.specs.Cmp.{IsStrictWeakOrder}
use Rattle.std.specs.Ordering.{is_lt}
use Rattle.std.proofs.lemmas.Fn.{always_returns_same}
use Rattle.tokei_languages.proofs.Ranks.{ranks, ranks_seen}
use Rattle.tokei_languages.proofs.StableSort.{only_sort, sort_seen}
use Rattle.tokei_languages.specs.Sorting.{puts_first, stably_sorted}
use Rattle.tokei_options.specs.declared.sort.Sort.TheVariants.{Files}
use Rattle.tokei_stats.specs.Reports.{report_of}
use Rattle.tokei_stats.specs.declared.report.Report.{Report}
use Rattle.tokei_print.proofs.Placing.{placed_sorted}
use Rattle.tokei_print.proofs.ordered.by_name.Goals as goal

pub returns : goal.returns
returns c =
    let view = λ (r : Bor Report). report_of r.now in
    let seen = puts_first Files in
    let before = λ (a b : Bor Report). seen (view a) (view b) in
    let o : IsStrictWeakOrder before = ranks_seen view seen (ranks Files) in
    let answers = always_returns_same _ (λ a r. is_lt r ≡ before a.0.now a.1.0.now) _ (λ a r f' k. search rules) in
    ap (map view) (only_sort before o c.in_ok-ordered.ordered.items c.sort_by.new.self.items
    (c.in_ok-sort_by.ensures.sorted before o answers) (c.in_ok-sort_by.ensures.stable before o answers))
    ∙ sort_seen view seen c.in_ok-ordered.ordered.items
    ∙ ap (stably_sorted seen) c.in_ok-ordered.ensures ∙ sym (placed_sorted (map report_of c.args.reports.now))
