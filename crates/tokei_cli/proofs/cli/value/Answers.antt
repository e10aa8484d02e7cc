-- The first value is that of the rows.
use Rattle.std.proofs.Common.{rules}
use Rattle.clap.proofs.WalkLemmas.{first_value-rows}
use Rattle.clap.specs.Words.{found_of}
use Rattle.tokei_cli.proofs.cli.value.Goals as goal

pub returns-in-None : goal.returns-in-None
returns-in-None c =
    let first = first_value-rows (found_of c.args.matches.now) c.args.id.now in
    search rules

pub returns-in_ok-from_str-in-Some : goal.returns-in_ok-from_str-in-Some
returns-in_ok-from_str-in-Some c =
    let first = first_value-rows (found_of c.args.matches.now) c.args.id.now in
    search rules
