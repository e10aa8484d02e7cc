-- There is an extension, so they stand between commas.
use Rattle.std.proofs.Common.{◌<◌, length, arith, rules}
use Rattle.std.proofs.lemmas.Bool.Decides.{nat_tests}
use Rattle.tokei_cli.proofs.Listing.{joined_tokens}
use Rattle.tokei_cli.proofs.printing.row_line.Goals as goal

pub returns-in_ok-join : goal.returns-in_ok-join
returns-in_ok-join c =
    let some : 0 < length c.args.extensions.now = grind (arith, nat_tests, c.is_empty.ensures, c.if-is_empty.false) in
    let joined = joined_tokens c.args.extensions.now some in
    search rules
