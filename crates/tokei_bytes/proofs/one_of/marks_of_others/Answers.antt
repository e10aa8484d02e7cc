use Rattle.std.proofs.Common.{arith}
use Rattle.tokei_bytes.proofs.Blocks.{mask_of_others}
use Rattle.tokei_bytes.proofs.one_of.marks_of_others.Goals as goal

pub returns : goal.returns
returns c = mask_of_others c.args.bytes c.args.lanes (omega arith) c.fits-lanes.0
