use Rattle.std.proofs.Common.{◌≡◌, drop}
use Rattle.tokei_table_row.specs.Sound.{no_newline}
use Rattle.tokei_table_rules.proofs.tokens.no_newline.Given as goal

abbrev pub invariant-loop-byte : goal.invariant-loop-byte
invariant-loop-byte l = no_newline (drop l.byte-index l.text) ≡ no_newline l.text
