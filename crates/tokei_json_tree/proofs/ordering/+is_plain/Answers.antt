use Rattle.std.proofs.Common.{◌+◌, arith, drop, rules, subst, sym}
use Rattle.json.specs.Value.{items_view, value_view}
use Rattle.tokei_json_tree.specs.Orderings.{AreItemsOrderingOf}
use Rattle.tokei_json_tree.proofs.Orderings.{item_ordered}
use Rattle.tokei_json_tree.proofs.Plain.{none_taken, next_taken}
use Rattle.tokei_json_tree.proofs.Steps.{from_item}
use Rattle.tokei_json_tree.proofs.ordering.+is_plain.Goals as goal

pub are_members_plain-loop-member-init : goal.are_members_plain-loop-member-init
are_members_plain-loop-member-init t c = none_taken _ c.deref-member-items.result.now

pub are_members_plain-loop-member-preserved : goal.are_members_plain-loop-member-preserved
are_members_plain-loop-member-preserved t c =
    let l = c.loop-member in
    next_taken _ c.deref-member-items.result.now l.member-index c.member-item.result l.last (omega arith) c.member-item.is
    (c.ascends.ensures (search rules)) (c.is_plain.ensures (search rules)) l.invariant

pub are_items_plain-loop-item-preserved : goal.are_items_plain-loop-item-preserved
are_items_plain-loop-item-preserved t c =
    let l = c.loop-item in
    let xs = c.deref-item-items.result.now in
    let x = value_view c.item-item.result in
    let behind = items_view (drop (l.item-index + 1) xs) in
    let e = from_item xs l.item-index c.item-item.result c.loop-item-test.true c.item-item.is in
    λ h. l.invariant
    (subst (λ ys. AreItemsOrderingOf (items_view ys) (items_view ys)) (sym e)
    (item_ordered x x behind behind (c.is_plain.ensures c.if-not-is_plain.false) h))
