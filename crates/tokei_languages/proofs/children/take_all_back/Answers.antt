use Rattle.std.proofs.Common.{◌∙◌, ap, sym}
use Rattle.tokei_languages.specs.TakenBack.{all_taken_back}
use Rattle.tokei_languages.specs.Seen.{children_of}
use Rattle.tokei_languages.proofs.TakingBack.{last_first}
use Rattle.tokei_languages.proofs.children.take_all_back.Goals as goal

pub loop-last-preserved : goal.loop-last-preserved
loop-last-preserved c =
    ap (λ es. all_taken_back es c.pop.new.self.items) c.take_back.ensures
    ∙ sym (last_first (children_of c.loop-last.children.entries) c.pop.new.self.items c.in-Some.last)
    ∙ ap (all_taken_back (children_of c.loop-last.children.entries)) (sym c.in-Some.ensures.items)
    ∙ c.loop-last.invariant
