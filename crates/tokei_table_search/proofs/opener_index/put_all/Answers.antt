use Rattle.std.proofs.Common.{get_or, refl}
use Rattle.tokei_bytes.specs.Slots.{is_slotted}
use Rattle.tokei_table_search.proofs.FirstBytes.{put_more, put_none}
use Rattle.tokei_table_search.proofs.opener_index.put_all.Goals as goal

pub loop-byte-init : goal.loop-byte-init
loop-byte-init c = put_none (is_slotted c.args.slots.now)

pub loop-byte-preserved : goal.loop-byte-preserved
loop-byte-preserved c =
    let i = c.loop-byte.byte-index in
    let bytes = c.args.bytes.now in
    let put = c.put_slot.ensures in
    put_more (is_slotted c.args.slots.now) (is_slotted c.loop-byte.slots) (is_slotted c.put_slot.new.slots) bytes i (get_or bytes i 0)
    c.loop-byte-test.true refl (put.stays c.if-not-put_slot.false) (put.put c.if-not-put_slot.false) put.only c.loop-byte.invariant
