use Rattle.std.proofs.Common.{◌∙◌, sym, ap, List, ◌++◌, [], append-nil}
use Rattle.tokei_folders.specs.declared.nodes.PlacedNode.{PlacedNode}
use Rattle.tokei_memory.proofs.FoldersAbove.{folders_begin, folders_more, folders_end, folders_at}
use Rattle.tokei_memory.proofs.told.folders_to.Goals as goal

pub loop-i-init : goal.loop-i-init
loop-i-init c = folders_begin c.args.names.now ∙ ap (λ (x : List PlacedNode). x ++ folders_at [] c.args.names.now) (sym c.new-folders.ensures)

pub loop-i-preserved : goal.loop-i-preserved
loop-i-preserved c =
    folders_more c.args.names.now c.loop-i.i c.loop-i.folders c.push.new.self c.in_ok-copied.field-0
    c.loop-i-test.true c.in_ok-copied.ensures c.in_ok-push.ensures.ok c.loop-i.invariant

pub returns : goal.returns
returns c = sym (c.loop-i.invariant ∙ ap (λ (x : List PlacedNode). c.loop-i.folders ++ x) (folders_end c.args.names.now c.loop-i.i c.loop-i-test.false) ∙ append-nil c.loop-i.folders)
