-- The run is that of the command line.
use Rattle.std.proofs.Common.{◌∙◌}
use Rattle.tokei_walk.specs.Walks.{texts_of}
use Rattle.tokei_program.proofs.Jobs.{is_chosen, is_job_of}
use Rattle.tokei_program.proofs.preparing.prepare.Goals as goal

pub returns-clause-told : goal.returns-clause-told
returns-clause-told g c t told =
    let request = c.args.request.now in
    let read = c.configuration.ensures.same ∙ told in
    is_job_of c.args.table.now request.cli.now request.env.now t (g.S.Source.remaining c.args.input.now) c.args.choices.wanted c.args.choices.sort c.args.choices.numbers
    c.in_ok-read.read.config c.in_ok-earlier.earlier c.in_ok-job.job c.in_ok-job.ensures.members c.in_ok-job.ensures.chosen c.in_ok-job.ensures.found c.requires.chosen
    (c.in_ok-read.ensures.told t told) (c.in_ok-earlier.ensures.told t read) (texts_of c.input.result.now)
    (c.in_ok-check_roots.ensures.told t (c.earlier.ensures.same ∙ read)) c.input.ensures

pub returns-clause-flawed : goal.returns-clause-flawed
returns-clause-flawed g c t told = c.in_ok-read.ensures.flawed t told

pub returns-clause-same : goal.returns-clause-same
returns-clause-same g c = c.check_roots.ensures.same ∙ (c.earlier.ensures.same ∙ c.configuration.ensures.same)

pub returns-in_err-job-clause-same : goal.returns-in_err-job-clause-same
returns-in_err-job-clause-same g c = c.check_roots.ensures.same ∙ (c.earlier.ensures.same ∙ c.configuration.ensures.same)

pub returns-in_err-check_roots-clause-same : goal.returns-in_err-check_roots-clause-same
returns-in_err-check_roots-clause-same g c = c.check_roots.ensures.same ∙ (c.earlier.ensures.same ∙ c.configuration.ensures.same)

pub returns-in_err-earlier-clause-same : goal.returns-in_err-earlier-clause-same
returns-in_err-earlier-clause-same g c = c.earlier.ensures.same ∙ c.configuration.ensures.same

pub returns-clause-chosen : goal.returns-clause-chosen
returns-clause-chosen g c =
    is_chosen c.args.request.now.cli.now c.args.choices.wanted c.args.choices.sort c.args.choices.numbers c.in_ok-job.job c.in_ok-job.ensures.chosen c.requires.chosen
