use Rattle.std.proofs.Common.{◌≡◌, drop}
use Rattle.tokei_walk.specs.Sought.{lists}
use Rattle.tokei_walk.proofs.rules_files.lists.Given as goal

abbrev pub invariant-loop-entry : goal.invariant-loop-entry
invariant-loop-entry l = lists (drop l.entry-index l.entries) l.name ≡ lists l.entries l.name
