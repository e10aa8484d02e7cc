-- Each note is shown in its turn.
use Rattle.std.proofs.Common.{◌≡◌, ◌∙◌, ◌+◌, ◌++◌, ◌∷◌, [], List, ap, arith, get_or, map, rules, subst, sym, take, take_all}
use Rattle.tokei_invocation.proofs.Showing.{plain_next, shown_all, shown_next}
use Rattle.tokei_invocation.specs.Shown.{AreShown, shown_note}
use Rattle.tokei_walk.specs.declared.kept_file.Note.{Note}
use Rattle.tokei_invocation.proofs.shown.shown_notes.Goals as goal

pub loop-note-preserved : goal.loop-note-preserved
loop-note-preserved g c =
    let notes = c.args.notes.now in
    let all = c.loop-note.all.items in
    let i = c.loop-note.note-index in
    let n = c.note-item.result in
    let s = c.in_ok-shown_note.field-0 in
    let is : n ≡ get_or notes i n = search rules in
    let pushed : c.push.new.self.items ≡ all ++ s ∷ [] = search rules in (
      subst (λ (xs : List Note). AreShown (take (i + 1) notes) xs) (sym pushed)
          (shown_next notes all i n s c.loop-note.invariant.0 c.loop-note-test.true is c.in_ok-shown_note.ensures.some),
      λ t told. pushed
          ∙ plain_next notes all i n s (c.loop-note.invariant.1 t told) c.loop-note-test.true is (c.in_ok-shown_note.ensures.silent t told),
    )

pub returns-clause-some : goal.returns-clause-some
returns-clause-some g c =
    shown_all c.args.notes.now c.loop-note.all.items c.loop-note.note-index c.loop-note.invariant.0 (omega (arith, c.loop-note-test.false))

pub returns-clause-silent : goal.returns-clause-silent
returns-clause-silent g c t told =
    c.loop-note.invariant.1 t told
    ∙ ap (λ (ms : List Note). map shown_note ms) (take_all c.loop-note.note-index c.args.notes.now (omega (arith, c.loop-note-test.false)))
