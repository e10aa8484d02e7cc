use Rattle.std.proofs.Common.{◌≡◌, length}
use Rattle.tokei_ignore.specs.IgnoreFiles.{last_fitting}
use Rattle.tokei_ignore.proofs.ignore_files.verdict_of_few.Given as goal

abbrev pub invariant-loop-pattern : goal.invariant-loop-pattern
invariant-loop-pattern l = last_fitting l.left l.names l.folder ≡ last_fitting l.patterns l.names l.folder

abbrev pub decreases-loop-pattern : goal.decreases-loop-pattern
decreases-loop-pattern l = length l.left
