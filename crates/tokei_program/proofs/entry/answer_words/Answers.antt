-- What was asked for is what the program writes.
use Rattle.tokei_program.proofs.Shaping.{words_shaped}
use Rattle.std.proofs.Common.{map}
use Rattle.tokei_program.proofs.Asking.{beside_is, either_is}
use Rattle.tokei_program.specs.Beside.{AnyMet, MetIn}
use Rattle.tokei_program.specs.Leaving.{HasNoFault}
use Rattle.tokei_program.proofs.Leaving.{words_left}
use Rattle.tokei_invocation.specs.Endings.{HasFailed}
use Rattle.tokei_program.proofs.Reasons.{by_words}
use Rattle.tokei_program.specs.Reasons.{HasFault}
use Rattle.tokei_program.proofs.entry.answer_words.Goals as goal

pub returns-in-Ok-clause-told : goal.returns-in-Ok-clause-told
returns-in-Ok-clause-told g c t told =
    either_is (map (λ w. w.now) c.args.words.now) c.in-Ok.cli c.args.env.now t
    (g.S.Source.remaining c.args.input.now) (g.W.Sink.contents c.args.out.now)
    (g.W.Sink.contents c.carry_out.new.out) c.carry_out.result c.in-Ok.ensures.of_words
    (c.carry_out.ensures.told t told)

pub returns-in-Ok-clause-beside : goal.returns-in-Ok-clause-beside
returns-in-Ok-clause-beside g c =
    beside_is AnyMet c.in-Ok.cli (map (λ w. w.now) c.args.words.now) (g.W.Sink.contents c.args.out.now)
    (g.W.Sink.contents c.carry_out.new.out) c.carry_out.result c.in-Ok.ensures.of_words c.carry_out.ensures.beside

pub returns-in-Ok-clause-noted : goal.returns-in-Ok-clause-noted
returns-in-Ok-clause-noted g c t told =
    beside_is (MetIn c.args.env.now t) c.in-Ok.cli (map (λ w. w.now) c.args.words.now) (g.W.Sink.contents c.args.out.now)
    (g.W.Sink.contents c.carry_out.new.out) c.carry_out.result c.in-Ok.ensures.of_words (c.carry_out.ensures.noted t told)

pub returns-in-Ok-clause-left : goal.returns-in-Ok-clause-left
returns-in-Ok-clause-left g c = λ t told.
    words_left c.args.env.now t c.in-Ok.cli (g.S.Source.remaining c.args.input.now)
    (g.W.Sink.contents c.args.out.now) (g.W.Sink.contents c.carry_out.new.out) (HasNoFault g.W.Sink.faults c.args.out.now c.carry_out.new.out)
    (map (λ w. w.now) c.args.words.now) c.carry_out.result c.in-Ok.ensures.of_words (c.carry_out.ensures.left t told)

pub returns-in-Ok-clause-shaped : goal.returns-in-Ok-clause-shaped
returns-in-Ok-clause-shaped g c =
    words_shaped c.in-Ok.cli (g.W.Sink.contents c.args.out.now) (g.W.Sink.contents c.carry_out.new.out)
    (map (λ w. w.now) c.args.words.now) c.carry_out.result c.in-Ok.ensures.of_words c.carry_out.ensures.shaped

pub returns-in-Ok-clause-cause : goal.returns-in-Ok-clause-cause
returns-in-Ok-clause-cause g c t told =
    by_words c.in-Ok.cli c.args.env.now t (g.S.Source.remaining c.args.input.now)
    (HasFailed (g.S.Source.remaining c.args.input.now) (g.S.Source.faults c.args.input.now) (g.S.Source.faults c.carry_out.new.input))
    (HasFault g.W.Sink.faults c.args.out.now c.carry_out.new.out)
    (map (λ w. w.now) c.args.words.now) c.carry_out.result c.in-Ok.ensures.of_words (c.carry_out.ensures.cause t told)
