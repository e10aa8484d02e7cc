use Rattle.std.proofs.Common.{inl}
use Rattle.tokei_bytes.specs.Slots.{is_slotted}
use Rattle.tokei_bytes.proofs.LowHalves.{either_or_new}
use Rattle.tokei_bytes.proofs.slots.put_slot_of_two.Goals as goal

pub returns-then-put_slot-clause-only : goal.returns-then-put_slot-clause-only
returns-then-put_slot-clause-only c = λ x.
    let others = is_slotted c.args.others.now x in
    either_or_new (is_slotted c.put_slot.new.slots x) others (is_slotted c.args.slots.now x) others (c.put_slot.ensures.only x) (λ h. inl h)

pub returns-else-put_slot-clause-only : goal.returns-else-put_slot-clause-only
returns-else-put_slot-clause-only c = λ x.
    either_or_new (is_slotted c.put_slot.new.slots x) (is_slotted c.put_slot-else-put_slot.new.slots x) (is_slotted c.args.slots.now x) (is_slotted c.args.others.now x)
    (c.put_slot.ensures.only x) (c.put_slot-else-put_slot.ensures.only x)
