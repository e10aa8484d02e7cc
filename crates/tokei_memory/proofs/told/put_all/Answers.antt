use Rattle.std.proofs.Common.{◌∷◌, ap, length, length-append, arith}
use Rattle.std.proofs.lemmas.Grind.{common_steps}
use Rattle.tokei_folders.specs.declared.nodes.PlacedNode.{PlacedNode}
use Rattle.tokei_memory.proofs.Placing.{added_next, added_all}
use Rattle.tokei_memory.proofs.told.put_all.Goals as goal

pub loop-node-preserved : goal.loop-node-preserved
loop-node-preserved c = record {
  room = omega (arith, length-append {A = PlacedNode}, ap length c.in-Some.ensures, c.loop-node.invariant.room, c.in_ok-put.ensures.len, c.in_ok-put.ensures.capacity);
  so_far =
      λ top e. added_next (top ∷ c.args.places.now.items) (top ∷ c.loop-node.places.items)
      (top ∷ c.put.new.places.items) c.loop-node.nodes c.pop.new.self _ c.in-Some.node
      c.in-Some.ensures (c.in_ok-put.ensures.placed top e) (c.loop-node.invariant.so_far top e);
}

pub returns-clause-placed : goal.returns-clause-placed
returns-clause-placed c =
    λ top e. added_all (top ∷ c.args.places.now.items) (top ∷ c.loop-node.places.items) c.args.nodes
    c.loop-node.nodes c.reverse.new.self c.in_default.ensures.0 c.reverse.ensures.turned
    (c.loop-node.invariant.so_far top e)

pub loop-node-init : goal.loop-node-init
loop-node-init c = grind (arith, common_steps)

pub loop-node-smaller : goal.loop-node-smaller
loop-node-smaller c = grind (arith, common_steps)
