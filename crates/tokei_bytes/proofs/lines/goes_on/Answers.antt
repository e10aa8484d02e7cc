use Rattle.std.proofs.lemmas.Grind.{common_steps}
use Rattle.tokei_bytes.proofs.LineSums.{last_byte}
use Rattle.std.proofs.Common.{arith, sym}
use Rattle.tokei_bytes.proofs.lines.goes_on.Goals as goal

pub returns-then-from-text : goal.returns-then-from-text
returns-then-from-text c = sym (last_byte c.args.text.now c.args.from c.if-from-text.true)

pub returns-else-from-text : goal.returns-else-from-text
returns-else-from-text c = grind (arith, common_steps)
