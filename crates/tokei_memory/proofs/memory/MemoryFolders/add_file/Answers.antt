use Rattle.std.proofs.Common.{◌∙◌, ap}
use Rattle.std.specs.List.{list_all}
use Rattle.tokei_folders.specs.Tree.{is_whole_name}
use Rattle.tokei_memory.proofs.FoldersAbove.{names_whole}
use Rattle.tokei_memory.proofs.Adding.{file_refused, file_added}
use Rattle.tokei_memory.proofs.memory.MemoryFolders.add_file.Goals as goal

pub returns-then-not-takes_file-clause-refused : goal.returns-then-not-takes_file-clause-refused
returns-then-not-takes_file-clause-refused c = λ _.
    file_refused c.args.self.now.tree _ c.as_slice.result.now c.args.content.now (c.as_slice.ensures ∙ c.in_ok-names.ensures) c.if-not-takes_file.ensures

pub invariant_of-self : goal.invariant_of-self
invariant_of-self c = record {
  sound =
      c.add.ensures.sound c.args.self.now.sound
      (ap (list_all is_whole_name) c.in_ok-names.ensures ∙ names_whole c.args.place.now);
}

pub returns-clause-added : goal.returns-clause-added
returns-clause-added c =
    file_added c.args.self.now.tree c.add.new.self _ c.in_ok-names.names c.as_slice.result.now
    c.args.content.now c.from_vec.result c.in_ok-names.ensures c.as_slice.ensures
    (c.from_vec.ensures ∙ c.in_ok-from_slice.ensures.items) c.if-not-takes_file.ensures
    c.in_ok-add.ensures.ok
