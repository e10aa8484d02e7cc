-- The texts so far are copied.
use Rattle.std.proofs.Common.{◌≡◌, string_bytes, map, take}
use Rattle.tokei_program.proofs.preparing.all_owned.Given as goal

abbrev pub invariant-loop-text : goal.invariant-loop-text
invariant-loop-text l = map string_bytes l.all.items ≡ map string_bytes (take l.text-index l.texts)
