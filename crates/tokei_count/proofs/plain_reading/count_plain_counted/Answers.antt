-- Answers to the goals of the plain reading with its steps.
use Rattle.std.proofs.Common.{Bool, List, ap, ◌∙◌}
use Rattle.tokei_table.specs.Row.{Row}
use Rattle.tokei_count.specs.Countings.{text_plain_steps}
use Rattle.tokei_count.specs.Languages.{languages_of}
use Rattle.tokei_count.specs.PlainReading.{reading, outermost_levels}
use Rattle.tokei_count.specs.Steps.{capped}
use Rattle.tokei_count.proofs.plain_reading.count_plain_counted.Goals as goal

pub returns-clause-steps : goal.returns-clause-steps
returns-clause-steps c =
    c.in_ok-read.ensures.steps
    ∙ ap (λ (rows : List Row). capped (text_plain_steps rows c.args.language c.args.text.now)) c.table.ensures.table

pub returns-clause-reads : goal.returns-clause-reads
returns-clause-reads c =
    c.in_ok-read.ensures.reads
    ∙ ap (λ (rows : List Row). reading (languages_of rows) c.unwrap_or-docs_are_comments.result outermost_levels c.args.language c.args.text.now) c.table.ensures.table
    ∙ ap (λ (docs : Bool). reading (languages_of c.args.counter.now) docs outermost_levels c.args.language c.args.text.now) c.unwrap_or-docs_are_comments.ensures
