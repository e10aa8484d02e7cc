use Rattle.std.proofs.Common.{ℕ, reverse, ap, sym, ◌∙◌}
use Rattle.std.specs.Borrow.{Bor}
use Rattle.std.specs.Prelude.{if◌then◌else◌}
use Rattle.tokei_languages.specs.Seen.{language_of, languages_of}
use Rattle.tokei_languages.specs.Values.{LanguageValue}
use Rattle.tokei_languages.specs.declared.language.Language.{Language}
use Rattle.tokei_print.specs.ListedLanguages.{languages_in}
use Rattle.tokei_print.proofs.Sorting.{map-reverse}
use Rattle.tokei_print.specs.Sorted.{languages_sorted}
use Rattle.tokei_print.proofs.order.in_list_order.Goals as goal
use Rattle.tokei_print.proofs.order.in_list_order.Goals.{then-reversed, else-reversed}

pub returns : goal.returns
returns c =
    let view : ℕ × Bor Language → ℕ × LanguageValue = λ e. (e.0, language_of e.1.now) in
    let in_order = languages_sorted c.args.sort (languages_of c.args.languages.now) in
    elim c.if-reversed.branch [
      | then-reversed w ↦
          ap (λ v. languages_in v.items) w.all-is ∙ ap languages_in w.reverse.ensures.items
          ∙ map-reverse view c.in_ok-all.all.items ∙ ap reverse c.in_ok-all.ensures
          ∙ ap (λ b. if b then reverse in_order else in_order) (sym w.if-reversed.true)
      | else-reversed w ↦
          ap (λ v. languages_in v.items) w.all-is ∙ c.in_ok-all.ensures
          ∙ ap (λ b. if b then reverse in_order else in_order) (sym w.if-reversed.false)
    ]
