-- A text in memory is shorter than the greatest `usize`.
use Rattle.std.proofs.Common.{arith}
use Rattle.tokei_ignore.proofs.BadLines.{few_bad}
use Rattle.tokei_ignore.proofs.ignore_files.bad_lines_fit.Goals as goal

pub returns : goal.returns
returns c = omega (arith, few_bad c.args.bytes.now, c.if-prove.false)
