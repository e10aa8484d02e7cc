use Rattle.std.proofs.Common.{rules, ap, ◌∙◌}
use Rattle.tokei_languages.specs.Seen.{language_of}
use Rattle.tokei_languages.specs.Values.{LanguageValue}
use Rattle.tokei_languages.specs.declared.language.Language.{Language}
use Rattle.tokei_languages.proofs.SameLanguage.{same_language}
use Rattle.tokei_languages.proofs.languages.Languages.total.Goals as goal

pub returns-clause-ok : goal.returns-clause-ok
returns-clause-ok c =
    same_language _ _ (ap (λ (l : Language). (language_of l).counts) c.put_counts.ensures ∙ c.in_ok-counts.ensures.sum)
    (ap (λ (l : Language). (language_of l).reports) c.put_counts.ensures ∙ ap (λ (v : LanguageValue). v.reports) c.new-total.ensures)
    c.in_ok-total.ensures.ok (search rules)
