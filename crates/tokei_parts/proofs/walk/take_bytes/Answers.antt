use Rattle.std.proofs.Common.{◌∙◌, ◌≤◌, slice_index, sym, subst, arith}
use Rattle.tokei_parts.specs.PlainBytes.{IsPlainByte}
use Rattle.tokei_parts.specs.Places.{text_of}
use Rattle.tokei_parts.specs.declared.place.Place.{Place}
use Rattle.tokei_parts.proofs.LineSteps.{plain_high, reach_bytes}
use Rattle.tokei_parts.proofs.walk.take_bytes.Goals as goal

pub returns-clause-goes_on : goal.returns-clause-goes_on
returns-clause-goes_on c = λ last is chain reaches.
    let p : Place = c.args.part.now in
    let at = c.args.reach.now.at in
    let bytes = c.saturating_sub-bytes.result in
    let high : c.args.to ≤ p.end = plain_high at c.args.to p.end c.requires.some c.requires.within in
    reach_bytes p chain last at c.args.reach.now.steps bytes reaches (omega (arith, c.saturating_sub-bytes.ensures, high, c.requires.some))
    (λ q low less. subst (λ m. IsPlainByte p.reading.now.matchers.now m (slice_index (text_of p) q)) (sym is)
    (c.requires.plain q low (omega (arith, c.saturating_sub-bytes.ensures, low, less))))
    (λ none q low less. c.requires.childless (sym is ∙ none) q low (omega (arith, c.saturating_sub-bytes.ensures, low, less)))

pub returns-clause-high : goal.returns-clause-high
returns-clause-high c = omega (
  arith,
  c.saturating_sub-bytes.ensures,
  c.requires.some,
  plain_high c.args.reach.now.at c.args.to c.args.part.now.end c.requires.some c.requires.within,
)
