use Rattle.std.proofs.Common.{false}
use Rattle.std.proofs.lemmas.List.{length-replicate}
use Rattle.tokei_bytes.proofs.Sets.{none_in, none_slotted, none_alone}
use Rattle.tokei_bytes.proofs.byte_set.ByteSet.empty.Goals as goal

pub invariant_of-result : goal.invariant_of-result
invariant_of-result c = (length-replicate 256 false, (none_in, (none_slotted, none_alone)))
