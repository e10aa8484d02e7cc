use Rattle.std.proofs.Common.{◌∙◌, ◌==◌, ap, not}
use Rattle.std.specs.Simd.Lanes.{chunk}
use Rattle.tokei_bytes.proofs.LowHalves.{mask_of_one}
use Rattle.tokei_parts.proofs.line_marks.LineMarks.in_block.Goals as goal

pub returns-else-this-ne0 : goal.returns-else-this-ne0
returns-else-this-ne0 g c =
    c.marks_in_block.ensures
    ∙ mask_of_one c.args.self.now.slots c.args.self.now.others (chunk c.args.from 32 c.args.text.now)
    (c.requires.one (ap (λ n. not (n == 0)) c.if-this-ne0.false))
