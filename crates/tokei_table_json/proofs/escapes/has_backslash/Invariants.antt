use Rattle.std.proofs.Common.{◌≡◌, ◌==◌, drop}
use Rattle.std.specs.List.{list_any}
use Rattle.tokei_table_json.specs.Escapes.{backslash}
use Rattle.tokei_table_json.proofs.escapes.has_backslash.Given as goal

abbrev pub invariant-loop-byte : goal.invariant-loop-byte
invariant-loop-byte l = list_any (λ b. b == backslash) (drop l.byte-index l.text) ≡ list_any (λ b. b == backslash) l.text
