use Rattle.std.proofs.Common.{Bor, List, ℕ, ◌∷◌, ◌++◌, ◌≡◌, arith, drop, take, subst, sym, rules}
use Rattle.std.proofs.lemmas.List.{take-append-drop}
use Rattle.json.specs.Value.{value_view, members_view}
use Rattle.tokei_json_tree.specs.Ordered.{AreKeysInOrder}
use Rattle.tokei_json_tree.specs.Orderings.{IsPut}
use Rattle.tokei_json_tree.proofs.Orderings.{before_longer, put_there, untrue}
use Rattle.tokei_json_tree.proofs.ordering.put.Goals as goal

pub returns : goal.returns
returns c t =
    let es = c.args.members.now.items in
    let place = c.loop-place.place in
    let e : Bor (List ℕ) × _ = (c.args.key, c.args.value) in
    let whole = take-append-drop place es in
    let sorted = subst (λ xs. AreKeysInOrder (members_view xs)) (sym whole) c.requires in
    let there = put_there _ e (take place es) (drop place es) sorted (c.is_behind.ensures (search rules)) c.loop-place.invariant.before in
    let longer : c.insert.new.self.items ≡ take place es ++ e ∷ drop place es = c.in_ok-insert.ensures.items in
    subst (λ xs. IsPut c.args.key.now (value_view c.args.value) (members_view es) (members_view xs)) (sym longer)
    (subst (λ xs. IsPut c.args.key.now (value_view c.args.value) (members_view xs) (members_view (take place es ++ e ∷ drop place es))) whole there)

pub returns-then-not-is_behind : goal.returns-then-not-is_behind
returns-then-not-is_behind c = untrue

pub loop-place-preserved : goal.loop-place-preserved
loop-place-preserved c =
    let l = c.loop-place in
    record {
      within = omega arith;
      before = before_longer _ c.args.key.now c.args.members.now.items c.saturating_sub-first.result l.place c.index.result.now
          c.loop-place-test.true l.invariant.within c.index.ensures (sym c.if-lt.ensures) l.invariant.before;
    }
