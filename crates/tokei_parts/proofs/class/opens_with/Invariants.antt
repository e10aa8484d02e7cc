use Rattle.std.proofs.Common.{◌≡◌, drop}
use Rattle.tokei_parts.specs.Class.{opens_with}
use Rattle.tokei_table.specs.RowOf.{pairs_of}
use Rattle.tokei_parts.proofs.class.opens_with.Given as goal

abbrev pub invariant-loop-pair : goal.invariant-loop-pair
invariant-loop-pair l = opens_with (pairs_of (drop l.pair-index l.pairs)) l.text l.closer ≡ opens_with (pairs_of l.pairs) l.text l.closer
