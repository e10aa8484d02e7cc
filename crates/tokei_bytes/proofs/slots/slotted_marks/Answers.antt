use Rattle.tokei_bytes.proofs.LowHalves.{mask_of_slotted}
use Rattle.tokei_bytes.proofs.slots.slotted_marks.Goals as goal

pub returns : goal.returns
returns c = mask_of_slotted c.args.slots.now c.args.lanes c.looked_up.result c.fits-lanes.0 c.looked_up.ensures
