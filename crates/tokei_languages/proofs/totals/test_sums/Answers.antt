use Rattle.std.proofs.Common.{rules, sym, ap, ◌∙◌, map, subst}
use Rattle.tokei_stats.specs.Overflow.{CountsFit}
use Rattle.tokei_languages.specs.Renewing.{own_sum, RenewalFits}
use Rattle.tokei_languages.specs.Seen.{entries_of, report_of, reports_of}
use Rattle.tokei_languages.proofs.totals.test_sums.Goals as goal

pub loop-language-preserved : goal.loop-language-preserved
loop-language-preserved c =
    let fit : CountsFit (own_sum (reports_of c.in-Some.language.now.reports)) =
    subst CountsFit (c.in_ok-_sums.ensures.sum ∙ ap (λ rs. own_sum (map report_of rs)) c.deref.ensures.value)
    (record { blanks = search rules; code = search rules; comments = search rules }) in (
      λ h. (subst (λ es. RenewalFits (entries_of es)) c.in-Some.ensures.steps (c.loop-language.invariant.0 h)).1,
      λ h. c.loop-language.invariant.1 (subst (λ es. RenewalFits (entries_of es)) (sym c.in-Some.ensures.steps) (fit, h)),
    )
