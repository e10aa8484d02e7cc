use Rattle.std.proofs.Common.{get_or, refl}
use Rattle.tokei_bytes.specs.Slots.{in_slots}
use Rattle.tokei_table_search.proofs.FirstBytes.{put_more, put_none}
use Rattle.tokei_table_search.proofs.opener_index.put_all_in_two.Goals as goal

pub loop-byte-init : goal.loop-byte-init
loop-byte-init c = put_none (in_slots c.args.slots.now c.args.others.now)

pub loop-byte-preserved : goal.loop-byte-preserved
loop-byte-preserved c =
    let i = c.loop-byte.byte-index in
    let bytes = c.args.bytes.now in
    let put = c.put_slot_of_two.ensures in
    put_more (in_slots c.args.slots.now c.args.others.now) (in_slots c.loop-byte.slots c.loop-byte.others)
    (in_slots c.put_slot_of_two.new.slots c.put_slot_of_two.new.others) bytes i (get_or bytes i 0)
    c.loop-byte-test.true refl (put.stays c.if-not-put_slot_of_two.false) (put.put c.if-not-put_slot_of_two.false) put.only
    c.loop-byte.invariant
