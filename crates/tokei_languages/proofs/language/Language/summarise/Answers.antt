use Rattle.std.proofs.Common.{rules, refl, ap, ◌∙◌, map}
use Rattle.tokei_languages.specs.Seen.{report_of}
use Rattle.tokei_languages.proofs.SameLanguage.{same_language}
use Rattle.tokei_languages.proofs.language.Language.summarise.Goals as goal

pub returns-clause-ok : goal.returns-clause-ok
returns-clause-ok c =
    same_language _ _ c.in_ok-counts.ensures.sum (c.in_ok-copied_reports.ensures.ok ∙ ap (map report_of) c.deref.ensures.value)
    (search rules) refl
