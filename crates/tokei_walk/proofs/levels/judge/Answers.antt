use Rattle.std.proofs.Common.{refl, ◌∙◌}
use Rattle.tokei_walk.proofs.StackSteps.{same_context}
use Rattle.tokei_walk.proofs.levels.judge.Goals as goal

pub returns-clause-context : goal.returns-clause-context
returns-clause-context c = same_context refl c.in_ok-verdict.ensures.names c.in_ok-excluded.ensures.shown

pub returns-then-excluded-clause-context : goal.returns-then-excluded-clause-context
returns-then-excluded-clause-context c = same_context refl refl c.in_ok-excluded.ensures.shown

pub returns-clause-name : goal.returns-clause-name
returns-clause-name c = c.in_ok-verdict.ensures.name ∙ c.in_ok-excluded.ensures.name
