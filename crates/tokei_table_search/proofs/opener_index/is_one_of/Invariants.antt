use Rattle.std.proofs.Common.{◌≡◌, drop}
use Rattle.tokei_bytes.specs.OneOf.{is_one_of}
use Rattle.tokei_table_search.proofs.opener_index.is_one_of.Given as goal

abbrev pub invariant-loop-known : goal.invariant-loop-known
invariant-loop-known l = is_one_of (drop l.known-index l.bytes) l.byte ≡ is_one_of l.bytes l.byte
