use Rattle.std.proofs.Common.{◌∙◌, ap}
use Rattle.std.specs.List.{list_all}
use Rattle.tokei_folders.specs.Tree.{is_whole_name}
use Rattle.tokei_memory.proofs.FoldersAbove.{names_whole}
use Rattle.tokei_memory.proofs.Adding.{folder_refused, folder_added}
use Rattle.tokei_memory.proofs.memory.MemoryFolders.add_folder.Goals as goal

pub returns-then-not-takes_folder-clause-refused : goal.returns-then-not-takes_folder-clause-refused
returns-then-not-takes_folder-clause-refused c = λ _.
    folder_refused c.args.self.now.tree _ c.as_slice.result.now (c.as_slice.ensures ∙ c.in_ok-names.ensures) c.if-not-takes_folder.ensures

pub invariant_of-self : goal.invariant_of-self
invariant_of-self c = record {
  sound =
      c.add.ensures.sound c.args.self.now.sound
      (ap (list_all is_whole_name) c.in_ok-names.ensures ∙ names_whole c.args.place.now);
}

pub returns-clause-added : goal.returns-clause-added
returns-clause-added c =
    folder_added c.args.self.now.tree c.add.new.self _ c.in_ok-names.names c.as_slice.result.now
    c.in_ok-names.ensures c.as_slice.ensures c.if-not-takes_folder.ensures c.in_ok-add.ensures.ok
