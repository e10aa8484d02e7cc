use Rattle.std.proofs.Common.{◌≡◌, ◌∙◌, ap, IfOk, subst}
use Rattle.tokei_folders.specs.Answers.{entries_in}
use Rattle.tokei_memory.proofs.TopEntries.{below_top}
use Rattle.tokei_memory.proofs.told.ToldTree.entries.Goals as goal

pub returns : goal.returns
returns c =
    let same =
    ap (entries_in c.args.folder.now) c.as_slice.ensures.value
    ∙ below_top c.args.folder.now c.self.inside.top c.self.inside.places.items
    ∙ ap (entries_in c.args.folder.now) c.self.view_is in
    subst (λ (x : _). IfOk c.entries_among.result (λ es. es ≡ x)) same c.entries_among.ensures
