-- The number is read of the text that the rows have.
use Rattle.std.proofs.Common.{◌∙◌}
use Rattle.clap.proofs.WalkLemmas.{one_text-rows}
use Rattle.clap.specs.Words.{found_of, one_of, rows_of}
use Rattle.tokei_cli.proofs.Reading.{number_is}
use Rattle.tokei_cli.proofs.cli.number.Goals as goal

pub returns : goal.returns
returns c =
    let same = one_text-rows (found_of c.args.matches.now) c.args.id.now in
    number_is (one_of c.args.id.now (rows_of (found_of c.args.matches.now))) c.get_one.result
    (λ e. c.get_one.ensures.none (same ∙ e)) (λ t e. c.get_one.ensures.value t (same ∙ e))
