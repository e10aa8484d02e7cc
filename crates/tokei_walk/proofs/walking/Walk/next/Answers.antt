use Rattle.std.proofs.Common.{Ok, refl, sym, ap, ◌∙◌}
use Rattle.std.proofs.lemmas.Bool.{false≢true}
use Rattle.tokei_walk.specs.Met.{files_in}
use Rattle.tokei_walk.specs.Notes.{notes_of}
use Rattle.tokei_walk.specs.Ranks.{rank}
use Rattle.tokei_walk.specs.Walks.{has_failed, met_to_come, noted_to_come, to_come}
use Rattle.tokei_walk.proofs.Meeting.{advances, notes_come}
use Rattle.tokei_walk.proofs.MetRoots.{no_roots, to_come_left, walk_meets}
use Rattle.tokei_walk.proofs.Over.{over_gives, not_failed, spent_over}
use Rattle.tokei_walk.proofs.Growing.{grows_same}
use Rattle.tokei_walk.proofs.Lasting.{answers}
use Rattle.tokei_walk.proofs.walking.Walk.next.Goals as goal

pub returns-then-is_over-clause-told : goal.returns-then-is_over-clause-told
returns-then-is_over-clause-told g c = λ t e. over_gives t c.args.self.now (sym c.is_over.ensures ∙ c.if-is_over.true)

pub returns-then-is_over-clause-ended : goal.returns-then-is_over-clause-ended
returns-then-is_over-clause-ended g c = λ q t. over_gives t c.args.self.now (sym c.is_over.ensures ∙ c.if-is_over.true)

pub returns-clause-over : goal.returns-clause-over
returns-clause-over g c = λ q. let ends = c.in_ok-found.ensures.ended q in spent_over _ ends.0 ends.1 ends.2

pub returns-clause-stays : goal.returns-clause-stays
unfolding has_failed
returns-clause-stays g c = sym (not_failed c.args.self.now (sym c.is_over.ensures ∙ c.if-is_over.false))

pub returns-clause-failed : goal.returns-clause-failed
unfolding has_failed
returns-clause-failed g c = λ h. absurd (false≢true (sym (not_failed c.args.self.now (sym c.is_over.ensures ∙ c.if-is_over.false)) ∙ h))

pub returns-in_err-found-clause-notes : goal.returns-in_err-found-clause-notes
unfolding notes_of
returns-in_err-found-clause-notes g c = c.in_err-found.ensures.notes

pub returns-clause-notes : goal.returns-clause-notes
unfolding notes_of
returns-clause-notes g c = c.in_ok-found.ensures.notes

pub returns-clause-fewer : goal.returns-clause-fewer
unfolding rank
returns-clause-fewer g c = c.in_ok-found.ensures.fewer

pub returns-in_err-found-clause-failed : goal.returns-in_err-found-clause-failed
unfolding has_failed
returns-in_err-found-clause-failed g c = λ h. absurd (false≢true (sym (not_failed c.args.self.now (sym c.is_over.ensures ∙ c.if-is_over.false)) ∙ h))

pub returns-then-is_over-clause-met : goal.returns-then-is_over-clause-met
returns-then-is_over-clause-met g c = λ t e. refl

pub returns-clause-met : goal.returns-clause-met
unfolding notes_of
returns-clause-met g c = λ t e.
    let w = c.args.self.now in
    walk_meets t w _ _ _ c.in_ok-found.found (not_failed w (sym c.is_over.ensures ∙ c.if-is_over.false)) refl (c.in_ok-found.ensures.met t e)

pub returns-clause-told : goal.returns-clause-told
unfolding to_come
returns-clause-told g c = λ t e.
    let w = c.args.self.now in
    advances _ _ c.in_ok-found.found (met_to_come t w) _
    (returns-clause-met g c t e)
    (λ q. let ends = c.in_ok-found.ensures.ended (ap Ok q) in to_come_left t _ refl ∙ no_roots _ _ t _ _ ends.0 ends.1 ends.2)

pub returns-clause-noted : goal.returns-clause-noted
unfolding notes_of noted_to_come
returns-clause-noted g c = λ t e.
    let w = c.args.self.now in
    notes_come _ _ c.in_ok-found.found (met_to_come t w) _
    (walk_meets t w _ _ _ c.in_ok-found.found (not_failed w (sym c.is_over.ensures ∙ c.if-is_over.false)) refl (c.in_ok-found.ensures.met t e))

pub returns-clause-ended : goal.returns-clause-ended
unfolding to_come files_in
returns-clause-ended g c = λ q t.
    let ends = c.in_ok-found.ensures.ended q in
    ap files_in (to_come_left t _ refl ∙ no_roots _ _ t _ _ ends.0 ends.1 ends.2)

pub returns-clause-again : goal.returns-clause-again
returns-clause-again g c = λ h. absurd (false≢true (sym (sym c.is_over.ensures ∙ c.if-is_over.false) ∙ h))

pub returns-then-is_over-clause-notes : goal.returns-then-is_over-clause-notes
returns-then-is_over-clause-notes g c = grows_same _ _ refl

pub returns-clause-folders : goal.returns-clause-folders
returns-clause-folders g c = answers c.in_ok-found.ensures.folders
