use Rattle.std.proofs.Common.{◌≡◌, drop}
use Rattle.tokei_walk.specs.Levels.{is_excluded}
use Rattle.tokei_walk.proofs.levels.is_excluded.Given as goal

abbrev pub invariant-loop-pattern : goal.invariant-loop-pattern
invariant-loop-pattern l = is_excluded (drop l.pattern-index l.excludes) l.shown l.is_folder ≡ is_excluded l.excludes l.shown l.is_folder
