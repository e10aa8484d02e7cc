use Rattle.std.proofs.Common.{◌∙◌, ap₂, bit_or}
use Rattle.std.specs.Simd.Lanes.{chunk}
use Rattle.tokei_bytes.specs.Slots.{is_slotted}
use Rattle.tokei_bytes.proofs.LowHalves.{mask_of_either}
use Rattle.tokei_bytes.proofs.slots.marks_of_two.Goals as goal

pub returns : goal.returns
returns c =
    ap₂ bit_or c.slotted_marks.ensures c.slotted_marks-2.ensures
    ∙ mask_of_either (is_slotted c.args.slots.now) (is_slotted c.args.others.now) (chunk c.args.from 32 c.args.text.now)
