use Rattle.tokei_bytes.proofs.Blocks.{mask_of_one}
use Rattle.tokei_bytes.proofs.one_of.marks_of_one.Goals as goal

pub returns : goal.returns
returns c = mask_of_one c.args.byte c.args.lanes c.fits-lanes.0
