use Rattle.std.proofs.Common.{◌≡◌, ℕ, map, rules, ap, ◌∙◌}
use Rattle.std.specs.Borrow.{Bor}
use Rattle.std.specs.Cmp.{IsStrictWeakOrder}
use Rattle.std.specs.Ordering.{is_lt}
use Rattle.std.proofs.lemmas.Fn.{always_returns_same}
use Rattle.tokei_languages.proofs.Ranks.{ranks_seen}
use Rattle.tokei_languages.proofs.StableSort.{only_sort, sort_seen}
use Rattle.tokei_languages.specs.Seen.{language_of}
use Rattle.tokei_languages.specs.Sorting.{stably_sorted}
use Rattle.tokei_languages.specs.Values.{LanguageValue}
use Rattle.tokei_languages.specs.declared.language.Language.{Language}
use Rattle.tokei_print.proofs.Sorting.{languages_rank}
use Rattle.tokei_print.specs.Sorted.{language_goes_first}
use Rattle.tokei_print.proofs.order.sorted.Goals as goal

pub returns : goal.returns
returns c =
    let view : ℕ × Bor Language → ℕ × LanguageValue = λ e. (e.0, language_of e.1.now) in
    let seen = λ (a b : ℕ × LanguageValue). language_goes_first c.args.sort a.1 b.1 in
    let before = λ (a b : ℕ × Bor Language). seen (view a) (view b) in
    let o : IsStrictWeakOrder before = ranks_seen view seen (languages_rank c.args.sort) in
    let answers = always_returns_same _ (λ a r. is_lt r ≡ before a.0.now a.1.0.now) _ (λ a r f' k. search rules) in
    ap (map view) (only_sort before o c.in_ok-all.all.items c.sort_by.new.self.items
    (c.in_ok-sort_by.ensures.sorted before o answers) (c.in_ok-sort_by.ensures.stable before o answers))
    ∙ sort_seen view seen c.in_ok-all.all.items
    ∙ ap (stably_sorted seen) c.in_ok-all.ensures
