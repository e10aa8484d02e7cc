use Rattle.std.proofs.Common.{sym, ap, ◌∙◌}
use Rattle.std.specs.Str.{chars}
use Rattle.tokei_ignore.specs.Patterns.{line_pattern}
use Rattle.tokei_ignore.proofs.Deciding.{outcome_of_text, outcome_of_other}
use Rattle.tokei_ignore.proofs.ignore_files.outcome.Goals as goal

pub returns-in-Ok : goal.returns-in-Ok
returns-in-Ok c = λ n. c.parse.ensures n ∙ ap (λ bs. line_pattern (chars bs)) c.in-Ok.ensures.cases.0 ∙ sym (outcome_of_text c.args.line.now c.in-Ok.ensures.cases.1)

pub returns-in-Err : goal.returns-in-Err
returns-in-Err c = λ _. sym (outcome_of_other c.args.line.now c.in-Err.ensures.cases.0)
