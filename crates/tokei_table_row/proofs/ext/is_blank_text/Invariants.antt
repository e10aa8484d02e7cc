use Rattle.std.proofs.Common.{◌≡◌, drop}
use Rattle.tokei_table_row.specs.Bytes.{all_blank}
use Rattle.tokei_table_row.proofs.ext.is_blank_text.Given as goal

abbrev pub invariant-loop-byte : goal.invariant-loop-byte
invariant-loop-byte l = all_blank (drop l.byte-index l.text) ≡ all_blank l.text
