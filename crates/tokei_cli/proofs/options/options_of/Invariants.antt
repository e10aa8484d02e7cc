-- The options of the rows so far are there.
use Rattle.std.proofs.Common.{◌≡◌, map, take}
use Rattle.tokei_cli.specs.Options.{local, rule_of_row, ruled}
use Rattle.tokei_cli.proofs.options.options_of.Given as goal

abbrev pub invariant-loop-row : goal.invariant-loop-row
invariant-loop-row l = map ruled l.options.items ≡ map local (map rule_of_row (take l.row-index l.rows))
