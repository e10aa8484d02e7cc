use Rattle.std.proofs.Common.{◌≡◌, ◌+◌, drop}
use Rattle.tokei_table_row.specs.Bytes.{line_len}
use Rattle.tokei_table_rules.proofs.lookups.line_len.Given as goal

abbrev pub invariant-loop-i : goal.invariant-loop-i
invariant-loop-i l = line_len l.text ≡ l.i + line_len (drop l.i l.text)
