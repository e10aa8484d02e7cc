use Rattle.std.proofs.Common.{◌≡◌, ◌++◌, [], take, drop, map}
use Rattle.tokei_folders.specs.Answers.{above_view}
use Rattle.tokei_folders.specs.Tree.{names_of, folders_above}
use Rattle.tokei_memory.proofs.memory.folders_over.Given as goal

abbrev pub invariant-loop-name : goal.invariant-loop-name
invariant-loop-name l = record {
  here : names_of l.place ≡ take l.name-index l.names;
  found : folders_above [] l.names ≡ map above_view l.found ++ folders_above (take l.name-index l.names) (drop l.name-index l.names);
}
