use Rattle.std.proofs.Common.{◌∙◌, [], ap, refl}
use Rattle.std.specs.List.{list_all}
use Rattle.tokei_folders.specs.declared.nodes.PlacedNode.{PlacedNode}
use Rattle.tokei_folders.specs.Tree.{is_sound, has_names}
use Rattle.tokei_memory.proofs.FoldersAbove.{pushed_last, added_whole}
use Rattle.tokei_memory.proofs.Placing.{sound_after, all_put}
use Rattle.tokei_memory.proofs.told.ToldTree.add.Goals as goal

pub returns-clause-ok : goal.returns-clause-ok
returns-clause-ok c =
    let node : PlacedNode = record { names = c.args.names; node = c.args.node } in
    all_put c.put_all.result (record { names = []; node = c.self.inside.top }) c.args.self.now
    c.self.inside.places.items c.put_all.new.places.items c.push.new.self _ refl c.self.view_is
    (pushed_last c.args.names c.as_slice.result.now node c.in_ok-nodes.nodes c.push.new.self
    c.as_slice.ensures c.in_ok-push.ensures.ok c.in_ok-nodes.ensures)
    c.put_all.ensures.placed

pub returns-clause-sound : goal.returns-clause-sound
returns-clause-sound c = λ h k.
    let node : PlacedNode = record { names = c.args.names; node = c.args.node } in
    let all = pushed_last c.args.names c.as_slice.result.now node c.in_ok-nodes.nodes c.push.new.self c.as_slice.ensures c.in_ok-push.ensures.ok c.in_ok-nodes.ensures in
    sound_after c.put_all.result (record { names = []; node = c.self.inside.top })
    c.self.inside.places.items c.put_all.new.places.items c.push.new.self refl
    c.put_all.ensures.placed c.put_all.ensures.stays (ap is_sound c.self.view_is ∙ h)
    (ap (list_all has_names) all ∙ added_whole node c.args.names refl k)
