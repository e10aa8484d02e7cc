use Rattle.std.proofs.Common.{◌≡◌, drop}
use Rattle.serde_json.specs.View.{items_view, members_view}
use Rattle.serde_json.specs.Written.{items_have_float, members_have_float}
use Rattle.tokei_json_tree.proofs.fractions.+has_float.Given as goal

abbrev pub invariant-items_have_float-loop-item : goal.invariant-items_have_float-loop-item
invariant-items_have_float-loop-item l =
    items_have_float (items_view l.item-items) ≡ items_have_float (items_view (drop l.item-index l.item-items))

abbrev pub invariant-members_have_float-loop-key : goal.invariant-members_have_float-loop-key
invariant-members_have_float-loop-key l =
    members_have_float (members_view l.members.entries) ≡ members_have_float (members_view l._key-iterator)
