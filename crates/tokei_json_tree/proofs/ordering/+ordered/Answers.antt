use Rattle.std.proofs.Common.{◌+◌, ◌≡◌, ◌≤◌, length, [], ◌∷◌, ◌++◌, refl, sym, ap, ◌∙◌, subst, arith, append_assoc, drop, IfSome, rules}
use Rattle.std.proofs.Math.ListN.{drop_of_length-le}
use Rattle.std.proofs.lemmas.List.{append-nil}
use Rattle.json.specs.Json as json
use Rattle.json.specs.Value.{value_view, items_view, members_view}
use Rattle.tokei_json_tree.specs.Orderings.{AreItemsOrderingOf, IsOrderingOf}
use Rattle.tokei_json_tree.proofs.Orderings.{all_put, number_ordered, array_ordered, object_ordered, IsOrderingSoFar, item_ordered, none_yet, one_more}
use Rattle.tokei_json_tree.proofs.Steps.{from_item}
use Rattle.tokei_json_tree.proofs.ordering.+ordered.Goals as goal

pub items_ordered-loop-item-preserved : goal.items_ordered-loop-item-preserved
items_ordered-loop-item-preserved t c =
    let l = c.loop-item in
    let xs = c.deref-item-items.result.now in
    let x = c.item-item.result in
    let behind = drop (l.item-index + 1) xs in
    let e = from_item xs l.item-index x (omega arith) c.item-item.is in
    let v = c.in-Ok-Some.item in
    let longer : c.push_reserved.new.self.items ≡ l.made.items ++ v ∷ [] = c.push_reserved.ensures.items in
    record {
      made = λ rest h.
          let more = item_ordered (value_view x) (value_view v) (items_view behind) (items_view rest)
          (subst (λ o. IfSome o (λ t. IsOrderingOf (value_view x) (value_view t))) c.in-Ok-Some.field-0-is c.in-Ok-Some.ensures) h in
          let all : c.push_reserved.new.self.items ++ rest ≡ l.made.items ++ v ∷ rest =
          ap (λ vs. vs ++ rest) longer ∙ append_assoc l.made.items (v ∷ []) rest in
          subst (λ vs. AreItemsOrderingOf (items_view xs) (items_view vs)) (sym all)
          (l.invariant.made (v ∷ rest) (subst (λ ys. AreItemsOrderingOf (items_view ys) (items_view (v ∷ rest))) (sym e) more));
      room = (
        c.push_reserved.ensures.len ∙ ap (λ n. n + 1) l.invariant.room.0,
        subst (λ n. length xs ≤ n) (sym c.push_reserved.ensures.capacity) l.invariant.room.1,
      );
    }

pub items_ordered-returns : goal.items_ordered-returns
items_ordered-returns t c =
    let l = c.loop-item in
    let xs = c.deref-item-items.result.now in
    let none_left = drop_of_length-le xs (omega arith) in
    let all = l.invariant.made [] (subst (λ ys. AreItemsOrderingOf (items_view ys) json.no_items) (sym none_left)
    (record { reads = refl; ordered = tt; whole = refl })) in
    array_ordered (items_view c.args.items.now.items) l.made
    (subst (λ ys. AreItemsOrderingOf (items_view ys) (items_view l.made.items)) c.deref-item-items.ensures.value
    (subst (λ vs. AreItemsOrderingOf (items_view xs) (items_view vs)) (append-nil l.made.items) all))

pub members_ordered-loop-member-init : goal.members_ordered-loop-member-init
members_ordered-loop-member-init t c =
    let xs = c.deref-member-items.result.now in
    subst (λ vs. IsOrderingSoFar (members_view xs) (members_view xs) (members_view vs)) (sym c.in-Ok.ensures.items) (none_yet (members_view xs))

pub members_ordered-loop-member-preserved : goal.members_ordered-loop-member-preserved
members_ordered-loop-member-preserved t c =
    let l = c.loop-member in
    let xs = c.deref-member-items.result.now in
    let x = c.member-item.result in
    let behind = drop (l.member-index + 1) xs in
    let e = from_item xs l.member-index x (omega arith) c.member-item.is in
    let made = members_view l.made.items in
    let so_far = subst (λ ys. IsOrderingSoFar (members_view xs) (members_view ys) made) e l.invariant in
    let value = value_view c.in-Ok-Some.value in
    let h = subst (λ o. IfSome o (λ v. IsOrderingOf (value_view x.1) (value_view v))) c.in-Ok-Some.field-0-is c.in-Ok-Some.ensures in
    one_more x.0.now (value_view x.1) value (members_view xs) (members_view behind) made (members_view c.put.new.members.items) h
    (c.in-Ok-true.ensures (search rules)) so_far

pub members_ordered-returns : goal.members_ordered-returns
members_ordered-returns t c =
    let l = c.loop-member in
    let xs = c.deref-member-items.result.now in
    let made = members_view l.made.items in
    let none_left = drop_of_length-le xs (omega arith) in
    let so_far = subst (λ ys. IsOrderingSoFar (members_view xs) (members_view ys) made) none_left l.invariant in
    object_ordered (members_view c.args.members.now.items) l.made
    (all_put (members_view c.args.members.now.items) made
    (subst (λ ys. IsOrderingSoFar (members_view ys) json.no_members made) c.deref-member-items.ensures.value so_far))

pub ordered-returns-then-is_some : goal.ordered-returns-then-is_some
ordered-returns-then-is_some t c =
    number_ordered _ c.args.tree.now c.in-Number.text c.count.result c.in-Number.is c.count.ensures (sym c.if-is_some.ensures)
