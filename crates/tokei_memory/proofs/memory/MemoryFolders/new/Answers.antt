use Rattle.std.proofs.Common.{ap}
use Rattle.tokei_folders.specs.Tree.{is_sound}
use Rattle.tokei_memory.proofs.memory.MemoryFolders.new.Goals as goal

pub invariant_of-result : goal.invariant_of-result
unfolding is_sound
invariant_of-result c = record { sound = ap is_sound c.new.ensures }
