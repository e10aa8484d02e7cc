use Rattle.std.proofs.Common.{◌≡◌, drop}
use Rattle.tokei_ignore.specs.Keys.{onto_bytes}
use Rattle.tokei_ignore.proofs.keys.onto_bytes.Given as goal

abbrev pub invariant-loop-byte : goal.invariant-loop-byte
invariant-loop-byte l = onto_bytes l.dots l.key (drop l.byte-index l.bytes) ≡ onto_bytes l.dots l.initial.key l.bytes
