use Rattle.std.proofs.Common.{◌≡◌, ◌+◌, drop}
use Rattle.tokei_table_row.specs.Bytes.{solid_len}
use Rattle.tokei_table_row.proofs.ext.solid_len.Given as goal

abbrev pub invariant-loop-i : goal.invariant-loop-i
invariant-loop-i l = solid_len l.text ≡ l.i + solid_len (drop l.i l.text)
