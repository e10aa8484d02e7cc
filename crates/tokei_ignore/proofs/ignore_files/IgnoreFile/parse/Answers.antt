use Rattle.std.proofs.Common.{arith}
use Rattle.std.proofs.lemmas.Grind.{common_steps}
use Rattle.tokei_ignore.specs.IgnoreFiles.{patterns_of, bad_lines_of}
use Rattle.tokei_ignore.proofs.ignore_files.IgnoreFile.parse.Goals as goal

pub loop-patterns-preserved : goal.loop-patterns-preserved
unfolding patterns_of bad_lines_of
loop-patterns-preserved c = grind (arith, common_steps)
