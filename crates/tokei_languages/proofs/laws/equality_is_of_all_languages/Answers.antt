use Rattle.std.proofs.Common.{sym, ◌∙◌}
use Rattle.tokei_languages.proofs.Equality.{languages_test}
use Rattle.tokei_languages.proofs.laws.equality_is_of_all_languages.Goals as goal

pub returns : goal.returns
returns c =
    let test = languages_test c.args.languages.now c.args.other.now in
    (λ h. test.0 (sym c.eq.ensures ∙ h), λ h. c.eq.ensures ∙ test.1 h)
