-- The list or the counts are what was asked for.
use Rattle.tokei_program.proofs.Shaping.{shaped_by_counts, shaped_by_list}
use Rattle.tokei_program.proofs.Asking.{asked_by_list, asked_by_counts, beside_counts, beside_list}
use Rattle.tokei_program.specs.Beside.{AnyMet, MetIn}
use Rattle.tokei_program.specs.Leaving.{HasNoFault}
use Rattle.tokei_program.proofs.Leaving.{asked_left, list_left, on_err}
use Rattle.std.proofs.Common.{false, refl, inl, true}
use Rattle.std.proofs.lemmas.Result.{err_from_is_err_and}
use Rattle.tokei_invocation.specs.Endings.{HasFailed}
use Rattle.tokei_program.proofs.Reasons.{by_choice, memory_by}
use Rattle.tokei_program.specs.Reasons.{HasFault}
use Rattle.tokei_program.proofs.entry.carry_out.Goals as goal

pub returns-then-cli-clause-told : goal.returns-then-cli-clause-told
returns-then-cli-clause-told g c t told =
    asked_by_list c.args.env.now t c.args.cli.now (g.S.Source.remaining c.args.input.now)
    (g.W.Sink.contents c.args.out.now) (g.W.Sink.contents c.write_list.new.out) c.write_list.result
    c.requires.named c.if-cli.true (c.write_list.ensures.told t told)

pub returns-else-cli-clause-told : goal.returns-else-cli-clause-told
returns-else-cli-clause-told g c t told =
    asked_by_counts c.args.env.now t c.args.cli.now (g.S.Source.remaining c.args.input.now)
    (g.W.Sink.contents c.args.out.now) (g.W.Sink.contents c.write_counts.new.out) c.write_counts.result
    c.requires.named c.if-cli.false (c.write_counts.ensures.told t told)

pub returns-then-cli-clause-beside : goal.returns-then-cli-clause-beside
returns-then-cli-clause-beside g c = beside_list AnyMet c.args.cli.now c.write_list.result c.if-cli.true c.write_list.ensures.beside

pub returns-else-cli-clause-beside : goal.returns-else-cli-clause-beside
returns-else-cli-clause-beside g c = beside_counts AnyMet c.args.cli.now c.write_counts.result c.if-cli.false c.write_counts.ensures.beside

pub returns-then-cli-clause-noted : goal.returns-then-cli-clause-noted
returns-then-cli-clause-noted g c t told =
    beside_list (MetIn c.args.env.now t) c.args.cli.now c.write_list.result c.if-cli.true c.write_list.ensures.beside

pub returns-else-cli-clause-noted : goal.returns-else-cli-clause-noted
returns-else-cli-clause-noted g c t told =
    beside_counts (MetIn c.args.env.now t) c.args.cli.now c.write_counts.result c.if-cli.false (c.write_counts.ensures.noted t told)

pub returns-in_err-choices-clause-left : goal.returns-in_err-choices-clause-left
returns-in_err-choices-clause-left g c = λ t told. on_err c.from_residual.result (λ _. inl refl)

pub returns-then-cli-clause-left : goal.returns-then-cli-clause-left
returns-then-cli-clause-left g c = λ t told.
    list_left c.args.env.now t c.args.cli.now (g.S.Source.remaining c.args.input.now)
    (g.W.Sink.contents c.args.out.now) (g.W.Sink.contents c.write_list.new.out) (HasNoFault g.W.Sink.faults c.args.out.now c.write_list.new.out)
    c.write_list.result c.write_list.ensures.left

pub returns-else-cli-clause-left : goal.returns-else-cli-clause-left
returns-else-cli-clause-left g c = λ t told.
    asked_left c.args.env.now t c.args.cli.now (g.S.Source.remaining c.args.input.now)
    (g.W.Sink.contents c.args.out.now) (g.W.Sink.contents c.write_counts.new.out) (HasNoFault g.W.Sink.faults c.args.out.now c.write_counts.new.out)
    c.write_counts.result c.requires.named c.if-cli.false (c.write_counts.ensures.left t told)

pub returns-then-cli-clause-shaped : goal.returns-then-cli-clause-shaped
returns-then-cli-clause-shaped g c =
    shaped_by_list c.args.cli.now (g.W.Sink.contents c.args.out.now) (g.W.Sink.contents c.write_list.new.out) c.write_list.result c.if-cli.true c.write_list.ensures.shaped

pub returns-else-cli-clause-shaped : goal.returns-else-cli-clause-shaped
returns-else-cli-clause-shaped g c =
    shaped_by_counts c.args.cli.now (g.W.Sink.contents c.args.out.now) (g.W.Sink.contents c.write_counts.new.out) c.write_counts.result c.if-cli.false c.write_counts.ensures.shaped

pub returns-else-cli-clause-cause : goal.returns-else-cli-clause-cause
returns-else-cli-clause-cause g c t told =
    by_choice c.args.cli.now c.args.env.now t (g.S.Source.remaining c.args.input.now)
    (HasFailed (g.S.Source.remaining c.args.input.now) (g.S.Source.faults c.args.input.now) (g.S.Source.faults c.write_counts.new.input))
    (HasFault g.W.Sink.faults c.args.out.now c.write_counts.new.out)
    false c.write_counts.result c.if-cli.false (c.write_counts.ensures.cause t told)

pub returns-then-cli-clause-cause : goal.returns-then-cli-clause-cause
returns-then-cli-clause-cause g c t told =
    by_choice c.args.cli.now c.args.env.now t (g.S.Source.remaining c.args.input.now)
    (HasFailed (g.S.Source.remaining c.args.input.now) (g.S.Source.faults c.args.input.now) (g.S.Source.faults c.args.input.now))
    (HasFault g.W.Sink.faults c.args.out.now c.write_list.new.out)
    true c.write_list.result c.if-cli.true (c.write_list.ensures.cause t told)

pub returns-in_err-choices-clause-cause : goal.returns-in_err-choices-clause-cause
returns-in_err-choices-clause-cause g c t told =
    let p = err_from_is_err_and c.from_residual.result c.from_residual.ensures.1 in
    rw (p.1, p.2) (λ one. memory_by c.args.cli.now c.args.env.now t (g.S.Source.remaining c.args.input.now)
    (HasFailed (g.S.Source.remaining c.args.input.now) (g.S.Source.faults c.args.input.now) (g.S.Source.faults c.args.input.now))
    (HasFault g.W.Sink.faults c.args.out.now c.args.out.now)
    c.args.cli.now.print_languages c.in_err-choices.field-0.0 (c.in_err-choices.ensures.cause one))
