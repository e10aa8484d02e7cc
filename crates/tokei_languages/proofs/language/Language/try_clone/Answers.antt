use Rattle.std.proofs.Common.{rules, refl, ap, ◌∙◌, map}
use Rattle.tokei_languages.specs.declared.language.Language.{Language}
use Rattle.tokei_languages.proofs.Equality.{language_test}
use Rattle.tokei_languages.specs.Seen.{report_of}
use Rattle.tokei_languages.proofs.SameLanguage.{same_language}
use Rattle.tokei_languages.proofs.language.Language.try_clone.Goals as goal

pub returns-clause-equal : goal.returns-clause-equal
returns-clause-equal c =
    let copy : Language = record c.args.self.now { reports = c.in_ok-reports.reports; children = c.in_ok-children.children } in
    (language_test copy c.args.self.now).1 (search rules)

pub returns-clause-ok : goal.returns-clause-ok
returns-clause-ok c =
    same_language _ _ refl (c.in_ok-reports.ensures.ok ∙ ap (map report_of) c.deref.ensures.value) c.in_ok-children.ensures.ok refl
