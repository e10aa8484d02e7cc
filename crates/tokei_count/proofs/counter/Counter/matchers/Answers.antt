use Rattle.std.proofs.Common.{List, map, get_or, ◌∙◌, ap, refl}
use Rattle.tokei_parts.specs.Matchers.{Matchers, matchers_of}
use Rattle.tokei_count.proofs.StepReading.{matchers_at}
use Rattle.tokei_count.proofs.counter.Counter.matchers.Goals as goal

pub returns : goal.returns
returns c =
    let d = c.of.result.now in
    c.shared.ensures
    ∙ ap (λ (m : Matchers). m.openers)
    (c.of.ensures d ∙ ap (λ (ms : List Matchers). get_or ms c.args.language d) (c.self.invariant.0 ∙ ap (map matchers_of) c.self.view_is)
    ∙ matchers_at c.args.self.now c.args.language c.args.language d refl c.requires)
