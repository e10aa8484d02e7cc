use Rattle.std.proofs.Common.{◌≡◌, drop}
use Rattle.tokei_parts.specs.Class.{encloses}
use Rattle.tokei_table.specs.RowOf.{pairs_of}
use Rattle.tokei_parts.proofs.class.encloses.Given as goal

abbrev pub invariant-loop-pair : goal.invariant-loop-pair
invariant-loop-pair l = encloses (pairs_of (drop l.pair-index l.pairs)) l.text ≡ encloses (pairs_of l.pairs) l.text
