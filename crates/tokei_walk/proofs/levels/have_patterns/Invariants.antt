use Rattle.std.proofs.Common.{◌≡◌, drop}
use Rattle.std.specs.List.{list_any}
use Rattle.tokei_walk.specs.Levels.{has_patterns}
use Rattle.tokei_walk.proofs.levels.have_patterns.Given as goal

abbrev pub invariant-loop-level : goal.invariant-loop-level
invariant-loop-level l = list_any has_patterns (drop l.level-index l.levels) ≡ list_any has_patterns l.levels
