-- The answer to the words is what the program writes and what it says beside that.
use Rattle.std.proofs.Common.{◌∙◌, inl, inr, map, arith, string_bytes, subst, sym}
use Rattle.std.specs.Io.KnownBytes.{Appends}
use Rattle.tokei_invocation.specs.Endings.{HasFailed}
use Rattle.tokei_program.proofs.Reasons.{told_why}
use Rattle.tokei_program.specs.Reasons.{HasFault}
use Rattle.tokei_program.proofs.entry.program.Goals as goal

pub returns-in-Ok-clause-written : goal.returns-in-Ok-clause-written
returns-in-Ok-clause-written g c t told done = c.in-Ok.ensures.told t told

pub returns-in-Ok-clause-beside : goal.returns-in-Ok-clause-beside
returns-in-Ok-clause-beside g c done = record {
  text = string_bytes c.in-Ok.text;
  beside = c.in-Ok.ensures.beside;
  appended = subst (λ bs. Appends (g.E.Sink.contents c.args.err.now) (g.E.Sink.contents c.say_beside.new.err) bs) c.as_bytes.ensures.value (c.say_beside.ensures.bytes done);
}

pub returns-in-Ok-clause-noted : goal.returns-in-Ok-clause-noted
returns-in-Ok-clause-noted g c t told done = record {
  text = string_bytes c.in-Ok.text;
  beside = c.in-Ok.ensures.noted t told;
  appended = subst (λ bs. Appends (g.E.Sink.contents c.args.err.now) (g.E.Sink.contents c.say_beside.new.err) bs) c.as_bytes.ensures.value (c.say_beside.ensures.bytes done);
}

pub returns-in-Ok-clause-refused : goal.returns-in-Ok-clause-refused
returns-in-Ok-clause-refused g c two = absurd (omega arith)

pub returns-in-Ok-clause-unread : goal.returns-in-Ok-clause-unread
returns-in-Ok-clause-unread g c two = absurd (omega arith)

pub returns-in-Ok-clause-said : goal.returns-in-Ok-clause-said
returns-in-Ok-clause-said g c below same failed = absurd (c.say_beside.ensures.failed below same failed)

pub returns-in-Err-clause-refused : goal.returns-in-Err-clause-refused
returns-in-Err-clause-refused g c two = c.in-Err.ensures.unwritten (c.conclude.ensures.refused two)

pub returns-in-Err-clause-unread : goal.returns-in-Err-clause-unread
returns-in-Err-clause-unread g c two = c.in-Err.ensures.unread (c.conclude.ensures.refused two)

pub returns-in-Ok-clause-left : goal.returns-in-Ok-clause-left
returns-in-Ok-clause-left g c = λ t told failed quiet. inr (inl (c.in-Ok.ensures.told t told))

pub returns-in-Err-clause-left : goal.returns-in-Err-clause-left
returns-in-Err-clause-left g c = λ t told failed quiet. c.in-Err.ensures.left t told quiet

pub returns-in-Err-clause-why : goal.returns-in-Err-clause-why
returns-in-Err-clause-why g c t told below same one =
    told_why (map (λ w. w.now) c.args.words.now) c.args.env.now t (g.S.Source.remaining c.args.input.now)
    (HasFailed (g.S.Source.remaining c.args.input.now) (g.S.Source.faults c.args.input.now) (g.S.Source.faults c.answer_words.new.input))
    (HasFault g.W.Sink.faults c.args.out.now c.answer_words.new.out)
    c.in-Err.ending (g.E.Sink.contents c.args.err.now) (g.E.Sink.contents c.conclude.new.err)
    (c.in-Err.ensures.cause t told (sym (c.conclude.ensures.own below same) ∙ one)) (c.conclude.ensures.told below same)

pub returns-in-Ok-clause-why : goal.returns-in-Ok-clause-why
returns-in-Ok-clause-why g c t told below same failed = absurd (c.say_beside.ensures.failed below same failed)
