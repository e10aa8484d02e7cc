use Rattle.std.proofs.Common.{sym, subst}
use Rattle.tokei_json_laws.specs.InOrder.{ValuesAreInOrder}
use Rattle.tokei_languages.specs.Seen.{entries_of}
use Rattle.tokei_json_laws.proofs.laws.languages_are_in_order.Goals as goal

pub loop-language-preserved : goal.loop-language-preserved
loop-language-preserved c =
    λ h. c.loop-language.invariant (subst (λ es. ValuesAreInOrder (entries_of es)) (sym c.in-Some.ensures.steps) (c.language_is_in_order.ensures, h))

pub returns : goal.returns
returns c = record {
  languages = c.iter-language-items.ensures.order;
  values = c.loop-language.invariant (subst (λ es. ValuesAreInOrder (entries_of es)) (sym c.in-None.ensures.steps.0) tt);
}
