-- What is written is the output of the run that was prepared over the table.
use Rattle.tokei_program.proofs.Shaping.{counts_shaped}
use Rattle.std.proofs.Common.{refl, inl, ◌∙◌}
use Rattle.std.proofs.lemmas.Result.{err_from_is_err_and}
use Rattle.tokei_program.proofs.Asking.{counts_written}
use Rattle.tokei_program.specs.Leaving.{HasNoFault}
use Rattle.tokei_program.proofs.Leaving.{counts_left, on_err}
use Rattle.tokei_invocation.specs.Endings.{HasFailed}
use Rattle.tokei_program.proofs.Reasons.{before_run, by_run}
use Rattle.tokei_program.specs.Reasons.{HasFault}
use Rattle.tokei_program.proofs.entry.write_counts.Goals as goal

pub returns-clause-told : goal.returns-clause-told
returns-clause-told g c t told =
    let read = c.table_of.ensures.same ∙ told in
    counts_written c.args.request.now.env.now t c.args.request.now.cli.now (g.S.Source.remaining c.args.input.now)
    (g.W.Sink.contents c.args.out.now) (g.W.Sink.contents c.write_prepared-said.new.out) c.in_ok-table.table c.in_ok-prepared.prepared.job c.write_prepared-said.result
    (c.in_ok-table.ensures.told t told) (c.in_ok-prepared.ensures.told t read) (c.write_prepared-said.ensures.told t (c.prepare.ensures.same ∙ read))

pub returns-clause-beside : goal.returns-clause-beside
returns-clause-beside g c = c.write_prepared-said.ensures.beside

pub returns-clause-noted : goal.returns-clause-noted
returns-clause-noted g c t told =
    let read = c.table_of.ensures.same ∙ told in
    let job = c.in_ok-prepared.ensures.told t read in
    c.write_prepared-said.ensures.noted t (c.prepare.ensures.same ∙ read) (c.in_ok-table.ensures.told t told) (c.in_ok-prepared.ensures.flawed t read)
    job.members job.config

pub returns-clause-fault : goal.returns-clause-fault
returns-clause-fault g c = c.write_prepared-said.ensures.fault

pub returns-clause-failed : goal.returns-clause-failed
returns-clause-failed g c = c.write_prepared-said.ensures.failed

pub returns-clause-same : goal.returns-clause-same
returns-clause-same g c = c.write_prepared-said.ensures.same ∙ (c.prepare.ensures.same ∙ c.table_of.ensures.same)

pub returns-in_err-prepared-clause-same : goal.returns-in_err-prepared-clause-same
returns-in_err-prepared-clause-same g c = c.prepare.ensures.same ∙ c.table_of.ensures.same

pub returns-in_err-table-clause-left : goal.returns-in_err-table-clause-left
returns-in_err-table-clause-left g c = λ t told. on_err c.from_residual.result (λ _. inl refl)

pub returns-in_err-prepared-clause-left : goal.returns-in_err-prepared-clause-left
returns-in_err-prepared-clause-left g c = λ t told. on_err c.from_residual-in_err-prepared.result (λ _. inl refl)

pub returns-clause-left : goal.returns-clause-left
returns-clause-left g c = λ t told.
    let read = c.table_of.ensures.same ∙ told in
    counts_left c.args.request.now.env.now t c.args.request.now.cli.now (g.S.Source.remaining c.args.input.now)
    (g.W.Sink.contents c.args.out.now) (g.W.Sink.contents c.write_prepared-said.new.out) (HasNoFault g.W.Sink.faults c.args.out.now c.write_prepared-said.new.out)
    c.in_ok-table.table c.in_ok-prepared.prepared.job c.write_prepared-said.result
    (c.in_ok-table.ensures.told t told) (c.in_ok-prepared.ensures.told t read) (c.write_prepared-said.ensures.left t (c.prepare.ensures.same ∙ read))

pub returns-clause-shaped : goal.returns-clause-shaped
returns-clause-shaped g c =
    counts_shaped c.args.request.now.cli.now (g.W.Sink.contents c.args.out.now) (g.W.Sink.contents c.write_prepared-said.new.out)
    c.in_ok-table.table c.in_ok-prepared.prepared.job c.write_prepared-said.result
    c.in_ok-prepared.ensures.members c.in_ok-prepared.ensures.chosen c.write_prepared-said.ensures.shaped

pub returns-clause-cause : goal.returns-clause-cause
returns-clause-cause g c t told =
    let read = c.table_of.ensures.same ∙ told in
    by_run c.args.request.now.cli.now c.args.request.now.env.now t (g.S.Source.remaining c.args.input.now)
    (HasFailed (g.S.Source.remaining c.args.input.now) (g.S.Source.faults c.args.input.now) (g.S.Source.faults c.prepare.new.input))
    (HasFault g.W.Sink.faults c.args.out.now c.write_prepared-said.new.out)
    c.in_ok-table.table c.in_ok-prepared.prepared.job c.write_prepared-said.result
    (c.in_ok-table.ensures.told t told) (c.in_ok-prepared.ensures.told t read) (c.write_prepared-said.ensures.cause t (c.prepare.ensures.same ∙ read))

pub returns-in_err-prepared-clause-cause : goal.returns-in_err-prepared-clause-cause
returns-in_err-prepared-clause-cause g c t told =
    let p = err_from_is_err_and c.from_residual-in_err-prepared.result c.from_residual-in_err-prepared.ensures.1 in
    rw (p.1, p.2) (before_run c.args.request.now.cli.now c.args.request.now.env.now t (g.S.Source.remaining c.args.input.now)
    (HasFailed (g.S.Source.remaining c.args.input.now) (g.S.Source.faults c.args.input.now) (g.S.Source.faults c.prepare.new.input))
    (HasFault g.W.Sink.faults c.args.out.now c.args.out.now) c.in_ok-table.table c.in_err-prepared.field-0.0
    (c.in_ok-table.ensures.told t told) (c.in_err-prepared.ensures.cause t (c.table_of.ensures.same ∙ told)))
