-- What folders in memory show of themselves.
use Rattle.std.specs.Prelude.{ℕ}
use Rattle.tokei_folders.specs.Tree.{Tree}
use Rattle.tokei_memory.specs.declared.memory.MemoryFolders.{MemoryFolders}

-- the tree that they tell
abbrev pub tree_of : MemoryFolders → Tree
tree_of folders = folders.tree

-- how many of their answers were out of memory
abbrev pub faults_of : MemoryFolders → ℕ
faults_of folders = folders.faults
