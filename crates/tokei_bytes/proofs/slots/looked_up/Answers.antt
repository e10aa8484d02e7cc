use Rattle.tokei_bytes.proofs.LowHalves.{may_be_looked_up, looked_up}
use Rattle.tokei_bytes.proofs.slots.looked_up.Goals as goal

pub swizzle : goal.swizzle
swizzle c = may_be_looked_up c.args.lanes c.fits-lanes.0

pub returns : goal.returns
returns c = looked_up c.args.lanes c.fits-lanes.0 c.args.slots.now c.twice.result c.twice.ensures
