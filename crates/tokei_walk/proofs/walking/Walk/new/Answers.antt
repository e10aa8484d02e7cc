use Rattle.std.proofs.Common.{refl, ap, ◌∙◌, reverse}
use Rattle.tokei_walk.specs.Met.{files_in, noted_in, notes_in}
use Rattle.tokei_walk.specs.Walks.{noted_to_come, texts_of, to_come}
use Rattle.tokei_walk.proofs.Chains.{descent_is_filter}
use Rattle.tokei_walk.proofs.Meeting.{files_met}
use Rattle.tokei_walk.proofs.MetRoots.{begun}
use Rattle.tokei_walk.proofs.walking.Walk.new.Goals as goal

pub returns-clause-met : goal.returns-clause-met
returns-clause-met c = λ t.
    begun t _ _ (texts_of c.args.roots.now) refl c.in_ok-excludes.ensures.patterns c.in_ok-stack.ensures.left c.in_ok-stack.ensures.holders
    (c.reverse.ensures.turned ∙ ap reverse c.in_ok-roots.ensures)

pub returns-clause-comes : goal.returns-clause-comes
unfolding to_come
returns-clause-comes c = λ t sound.
    let roots = texts_of c.args.roots.now in
    ap files_in (returns-clause-met c t) ∙ files_met _ _ t roots ∙ descent_is_filter _ _ t roots sound

pub returns-clause-noted : goal.returns-clause-noted
unfolding noted_to_come noted_in
returns-clause-noted c = λ t. ap notes_in (returns-clause-met c t)
