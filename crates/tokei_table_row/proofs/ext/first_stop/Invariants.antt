use Rattle.std.proofs.Common.{◌≡◌, ◌+◌, drop, option_map}
use Rattle.tokei_table_row.specs.OuterLines.{first_stop}
use Rattle.tokei_table_row.proofs.ext.first_stop.Given as goal

abbrev pub invariant-loop-i : goal.invariant-loop-i
invariant-loop-i l = first_stop l.text ≡ option_map (λ k. l.i + k) (first_stop (drop l.i l.text))
