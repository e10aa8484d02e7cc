use Rattle.std.proofs.Common.{subst, slice_index, arith}
use Rattle.tokei_bytes.specs.ByteSets.{AreSlotted}
use Rattle.tokei_bytes.proofs.Sets.{outside_slots}
use Rattle.tokei_bytes.proofs.byte_set.ByteSet.clear_blocks.Goals as goal

pub returns-clause-passed : goal.returns-clause-passed
returns-clause-passed c = λ p low high.
    let slots = c.self.inside.slots in
    let others = c.self.inside.others in
    let have = c.self.inside.has_slots in
    let are = subst (λ flags. AreSlotted flags slots others have) c.self.view_is c.self.invariant.1.1.0 in
    outside_slots c.args.self.now slots others have (slice_index c.args.text.now p) are c.if-not-self.false
    (c.type_inv.text p).fits (c.slotted_end.ensures.passed p low (omega (arith, high, c.min.ensures)))
