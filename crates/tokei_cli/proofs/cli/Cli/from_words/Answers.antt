-- What the parse found is the command line of the words.
use Rattle.std.proofs.Common.{map}
use Rattle.clap.specs.Words.{app_of}
use Rattle.tokei_cli.proofs.Reading.{has_column, has_inputs}
use Rattle.tokei_cli.proofs.Spelling.{line_is}
use Rattle.tokei_cli.proofs.cli.Cli.from_words.Goals as goal

pub returns-in_ok-of-in-Ok-clause-of_words : goal.returns-in_ok-of-in-Ok-clause-of_words
returns-in_ok-of-in-Ok-clause-of_words c =
    line_is (app_of c.in_ok-command.field-0) (map (λ w. w.now) c.args.words.now) c.in-Ok.matches c.in_ok-of-in-Ok.field-0
    c.in_ok-command.ensures c.in-Ok.ensures.matches c.in_ok-of-in-Ok.ensures

pub returns-in_ok-of-in-Ok-clause-inputs : goal.returns-in_ok-of-in-Ok-clause-inputs
returns-in_ok-of-in-Ok-clause-inputs c = has_inputs _ c.in_ok-of-in-Ok.field-0 c.in_ok-of-in-Ok.ensures

pub returns-in_ok-of-in-Ok-clause-reverse : goal.returns-in_ok-of-in-Ok-clause-reverse
returns-in_ok-of-in-Ok-clause-reverse c = has_column _ c.in_ok-of-in-Ok.field-0 c.in_ok-of-in-Ok.ensures
