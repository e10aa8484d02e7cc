use Rattle.std.proofs.Common.{◌∙◌, ap}
use Rattle.std.specs.List.{list_all}
use Rattle.tokei_folders.specs.Tree.{is_whole_name}
use Rattle.tokei_memory.proofs.FoldersAbove.{names_whole}
use Rattle.tokei_memory.proofs.memory.MemoryFolders.above_answer.Goals as goal

pub folders_over-requires : goal.folders_over-requires
folders_over-requires c = ap (list_all is_whole_name) (c.as_slice.ensures ∙ c.in_ok-names.ensures) ∙ names_whole c.args.place.now
