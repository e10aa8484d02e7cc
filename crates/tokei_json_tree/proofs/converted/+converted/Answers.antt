use Rattle.std.proofs.Common.{Bor, ℕ, List, ◌≡◌, ◌≤◌, [], ◌∷◌, ◌++◌, refl, sym, ap, ◌∙◌, subst, arith, append_assoc, string_bytes, drop, length, ◌+◌}
use Rattle.std.proofs.Math.ListN.{drop_of_length-le}
use Rattle.std.proofs.lemmas.List.{append-nil}
use Rattle.json.specs.Json as json
use Rattle.json.specs.Value.{value_view, items_view, members_view}
use Rattle.serde_json.specs.Data.{member}
use Rattle.serde_json.specs.View.{view}
use Rattle.serde_json.specs.View.{items_view as data_items_view}
use Rattle.serde_json.specs.View.{members_view as data_members_view}
use Rattle.tokei_json_tree.proofs.Conversions.{AreItemsOf, AreMembersOf, array_of, item_more, member_more, object_of, tree_of_number}
use Rattle.tokei_json_tree.proofs.Steps.{from_item, room_behind, room_for_all}
use Rattle.tokei_json_tree.proofs.converted.+converted.Goals as goal

pub converted-returns-in-Number : goal.converted-returns-in-Number
converted-returns-in-Number t c =
    tree_of_number c.args.value.now c.number_converted.result c.in-Number.field-0 c.in-Number.is c.number_converted.ensures

pub items_converted-loop-item-preserved : goal.items_converted-loop-item-preserved
items_converted-loop-item-preserved t c =
    let l = c.loop-item in
    let xs = c.deref-item-items.result.now in
    let x = c.item-item.result in
    let behind = drop (l.item-index + 1) xs in
    let e = from_item xs l.item-index x (omega arith) c.item-item.is in
    let v = c.in-Ok-converted.tree in
    let longer : c.push_reserved.new.self.items ≡ l.made.items ++ v ∷ [] = c.push_reserved.ensures.items in
    record {
      made = λ rest h.
          let more = item_more (view x) (data_items_view behind) (value_view v) (items_view rest) c.in-Ok-converted.ensures h in
          let all : c.push_reserved.new.self.items ++ rest ≡ l.made.items ++ v ∷ rest =
          ap (λ vs. vs ++ rest) longer ∙ append_assoc l.made.items (v ∷ []) rest in
          subst (λ vs. AreItemsOf (data_items_view xs) (items_view vs)) (sym all)
          (l.invariant.made (v ∷ rest) (subst (λ ds. AreItemsOf (data_items_view ds) (items_view (v ∷ rest))) (sym e) more));
      room = (
        c.push_reserved.ensures.len ∙ ap (λ n. n + 1) l.invariant.room.0,
        subst (λ n. length xs ≤ n) (sym c.push_reserved.ensures.capacity) l.invariant.room.1,
      );
    }

pub members_converted-loop-key-preserved : goal.members_converted-loop-key-preserved
members_converted-loop-key-preserved t c =
    let l = c.loop-key in
    let name = string_bytes c.in-Some.key.now in
    let d = view c.in-Some.member.now in
    let j = value_view c.in-Ok-converted.tree in
    let made : Bor (List ℕ) × _ = (c.as_str.result, c.in-Ok-converted.tree) in
    let behind = data_members_view c.next.new.self in
    let longer : c.push_reserved.new.self.items ≡ l.made.items ++ made ∷ [] = c.push_reserved.ensures.items in
    record {
      made = λ rest h.
          let more = member_more name d behind j (members_view rest) c.in-Ok-converted.ensures h in
          let named = subst (λ k. AreMembersOf (member name d behind) (json.member k j (members_view rest))) (sym c.as_str.ensures.value) more in
          let all : c.push_reserved.new.self.items ++ rest ≡ l.made.items ++ made ∷ rest =
          ap (λ vs. vs ++ rest) longer ∙ append_assoc l.made.items (made ∷ []) rest in
          subst (λ vs. AreMembersOf (data_members_view c.args.members.now.entries) (members_view vs)) (sym all)
          (l.invariant.made (made ∷ rest)
          (subst (λ es. AreMembersOf (data_members_view es) (members_view (made ∷ rest))) (sym c.in-Some.ensures.steps) named));
      room = room_behind _ c.in-Some.ensures.steps c.push_reserved.ensures.len c.push_reserved.ensures.capacity l.invariant.room;
    }

pub items_converted-returns : goal.items_converted-returns
items_converted-returns t c =
    let l = c.loop-item in
    let xs = c.deref-item-items.result.now in
    let none_left = drop_of_length-le xs (omega arith) in
    let all = l.invariant.made [] (subst (λ ds. AreItemsOf (data_items_view ds) json.no_items) (sym none_left) (record { value = refl; ordered = tt })) in
    array_of (data_items_view c.args.items.now.items) l.made
    (subst (λ ds. AreItemsOf (data_items_view ds) (items_view l.made.items)) c.deref-item-items.ensures.value
    (subst (λ vs. AreItemsOf (data_items_view xs) (items_view vs)) (append-nil l.made.items) all))

pub members_converted-returns : goal.members_converted-returns
members_converted-returns t c =
    let l = c.loop-key in
    let all = l.invariant.made [] (subst (λ ds. AreMembersOf (data_members_view ds) json.no_members) (sym c.in-None.ensures.steps.0)
    (record { value = refl; ordered = tt })) in
    object_of c.args.members.now.entries l.made c.len.ensures.ordered
    (subst (λ vs. AreMembersOf (data_members_view c.args.members.now.entries) (members_view vs)) (append-nil l.made.items) all)

pub members_converted-loop-key-init : goal.members_converted-loop-key-init
members_converted-loop-key-init t c =
    let entries = c.args.members.now.entries in
    let same : c.into_iter-key-iterator.result ≡ entries = c.into_iter-key-iterator.ensures.into_iter_gives ∙ c.iter-key-items.ensures.rest in
    record {
      made = λ rest h.
          subst (λ vs. AreMembersOf (data_members_view entries) (members_view (vs ++ rest))) (sym c.in-Ok.ensures.items)
          (subst (λ es. AreMembersOf (data_members_view es) (members_view rest)) same h);
      room = room_for_all same c.in-Ok.ensures.len c.len.ensures.len c.in-Ok.ensures.capacity;
    }
