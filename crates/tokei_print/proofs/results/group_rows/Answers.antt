use Rattle.std.proofs.Common.{◌≡◌, ℕ, ◌+◌, ◌++◌, ◌∷◌, drop, filter, false, string_bytes, sym, ap, ◌∙◌, subst, Bor, Err, rules}
use Rattle.tokei_languages.specs.Seen.{language_of}
use Rattle.tokei_languages.specs.Values.{LanguageValue}
use Rattle.tokei_languages.specs.declared.language.Language.{Language}
use Rattle.tokei_print.specs.ListedLanguages.{languages_in}
use Rattle.tokei_languages.specs.Names.{name_in}
use Rattle.tokei_print.specs.Results.{is_of_group, language_block, language_blocks}
use Rattle.tokei_print.specs.ResultsFit.{LanguagesFit}
use Rattle.tokei_print.proofs.Behind.{none_yet, one_more, no_more, one_kept, one_passed, none_kept}
use Rattle.tokei_stats.specs.declared.error.CountError.TheVariants.{Overflow}
use Rattle.tokei_print.proofs.results.group_rows.Goals as goal
use Rattle.tokei_print.proofs.results.group_rows.Goals.{then-is_of_group+in_ok-rows, else-is_of_group}

pub loop-entry-init : goal.loop-entry-init
loop-entry-init c = (none_yet (string_bytes c.new-rows.result) _ c.new-rows.ensures.bytes, λ f. f)

pub loop-entry-preserved : goal.loop-entry-preserved
loop-entry-preserved c =
    let seen : ℕ × Bor Language → ℕ × LanguageValue = λ e. (e.0, language_of e.1.now) in
    let test = λ (e : ℕ × LanguageValue). is_of_group c.args.showing.compact c.args.group.with_children e.1 in
    let xs = c.args.languages.now in
    let i = c.loop-entry.entry-index in
    let x = c.entry-item.result in
    let rows = string_bytes c.loop-entry.rows in
    let block = language_block c.args.layout.now (name_in c.args.showing.table.now) c.args.showing.compact c.args.showing.sorted in
    let text = language_blocks c.args.layout.now (name_in c.args.showing.table.now) c.args.showing.compact c.args.showing.sorted in
    let fit = LanguagesFit c.args.layout.now.list_files c.args.showing.compact c.args.showing.sorted in
    let left = λ (n : ℕ). filter test (languages_in (drop n xs)) in
    elim c.if-is_of_group.branch [
      | then-is_of_group+in_ok-rows w ↦
          let kept : left i ≡ seen x ∷ left (i + 1) =
          one_kept seen xs i x c.loop-entry-test.true c.entry-item.is test (sym c.is_of_group.ensures ∙ w.if-is_of_group.true) in (
            ap (λ a. string_bytes c.if-is_of_group.rows ++ text a (left (i + 1))) w.first-is
                ∙ one_more rows (text c.args.group.first (left 0)) (string_bytes c.if-is_of_group.rows) (block c.loop-entry.first x.0 (language_of x.1.now))
                (text c.loop-entry.first (left i)) (text false (left (i + 1))) c.loop-entry.invariant.0
                (ap (text c.loop-entry.first) kept)
                (ap string_bytes w.rows-is ∙ w.in_ok-rows.ensures.ok _ w.language_block.ensures.ok),
            λ f. (subst fit kept (c.loop-entry.invariant.1 f)).1,
          )
      | else-is_of_group w ↦
          let passed : left i ≡ left (i + 1) =
          one_passed seen xs i x c.loop-entry-test.true c.entry-item.is test (sym c.is_of_group.ensures ∙ w.if-is_of_group.false) in (
            ap (λ r. string_bytes r ++ text c.if-is_of_group.first (left (i + 1))) w.rows-is
                ∙ ap (λ a. rows ++ text a (left (i + 1))) w.first-is
                ∙ ap (λ rs. rows ++ text c.loop-entry.first rs) (sym passed) ∙ c.loop-entry.invariant.0,
            λ f. subst fit passed (c.loop-entry.invariant.1 f),
          )
    ]

pub returns-clause-ok : goal.returns-clause-ok
returns-clause-ok c =
    let seen : ℕ × Bor Language → ℕ × LanguageValue = λ e. (e.0, language_of e.1.now) in
    let test = λ (e : ℕ × LanguageValue). is_of_group c.args.showing.compact c.args.group.with_children e.1 in
    let text = language_blocks c.args.layout.now (name_in c.args.showing.table.now) c.args.showing.compact c.args.showing.sorted in
    no_more (string_bytes c.loop-entry.rows) (text c.args.group.first (filter test (languages_in c.args.languages.now)))
    (text c.loop-entry.first (filter test (languages_in (drop c.loop-entry.entry-index c.args.languages.now)))) c.loop-entry.invariant.0
    (ap (text c.loop-entry.first) (none_kept seen c.args.languages.now c.loop-entry.entry-index c.loop-entry-test.false test))

pub returns-in_err-rows-clause-overflow : goal.returns-in_err-rows-clause-overflow
returns-in_err-rows-clause-overflow c = λ t f.
    let seen : ℕ × Bor Language → ℕ × LanguageValue = λ e. (e.0, language_of e.1.now) in
    let test = λ (e : ℕ × LanguageValue). is_of_group c.args.showing.compact c.args.group.with_children e.1 in
    let fit = LanguagesFit c.args.layout.now.list_files c.args.showing.compact c.args.showing.sorted in
    let kept = one_kept seen c.args.languages.now c.loop-entry.entry-index c.entry-item.result c.loop-entry-test.true c.entry-item.is test
    (sym c.is_of_group.ensures ∙ c.if-is_of_group.true) in
    let same : c.in_err-rows.field-0.0 ≡ Overflow = search rules in
    c.language_block.ensures.overflow (c.in_err-rows.ensures.overflow (ap (λ x. Err x) same)) (subst fit kept (c.loop-entry.invariant.1 f)).0
