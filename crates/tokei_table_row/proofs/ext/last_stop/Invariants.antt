use Rattle.std.proofs.Common.{◌≡◌, ◌≤◌, length}
use Rattle.tokei_table_row.specs.OuterLines.{last_stop}
use Rattle.tokei_table_row.proofs.ext.last_stop.Given as goal

abbrev pub invariant-loop-rest : goal.invariant-loop-rest
invariant-loop-rest l = (last_stop l.rest ≡ last_stop l.text) × (length l.rest ≤ length l.text)

abbrev pub decreases-loop-rest : goal.decreases-loop-rest
decreases-loop-rest l = length l.rest
