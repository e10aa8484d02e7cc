use Rattle.std.proofs.Common.{◌≡◌, [], ◌∷◌, ◌+◌, ◌≤◌, length, reverse, vec_len}
use Rattle.std.specs.Prelude.{vec_capacity}
use Rattle.tokei_folders.specs.declared.nodes.PlacedNode.{PlacedNode}
use Rattle.tokei_memory.specs.Additions.{with_all}
use Rattle.tokei_memory.proofs.told.put_all.Given as goal

abbrev pub invariant-loop-node : goal.invariant-loop-node
invariant-loop-node l = record {
  room : vec_len l.places + length l.nodes ≤ vec_capacity l.places;
  so_far : (top : PlacedNode) → top.names ≡ [] → with_all (top ∷ l.fn.places.items) (reverse l.initial.nodes) ≡ with_all (top ∷ l.places.items) (reverse l.nodes);
}

abbrev pub decreases-loop-node : goal.decreases-loop-node
decreases-loop-node l = length l.nodes
