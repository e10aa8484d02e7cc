-- Trees that stand for what they read as: members whose keys ascend as they stand.
use Rattle.std.proofs.Common.{◌≡◌, ℕ, suc, ◌+◌, ◌<◌, List, [], ◌∷◌, ◌++◌, Bor, None, Some, Option, IfSome, arith, sym, ap, ◌∙◌, subst}
use Rattle.std.proofs.Common.{Less, drop, get_or, length, take}
use Rattle.std.proofs.Math.Seq.{take-suc}
use Rattle.std.proofs.lemmas.Cmp.{nat_list_cmp_total}
use Rattle.std.proofs.lemmas.List.{append-nil}
use Rattle.std.specs.Cmp.Lexicographic.{slice_cmp}
use Rattle.std.specs.Ordering.{nat_cmp}
use Rattle.json.specs.Value.{value_view, members_view}
use Rattle.json.specs.declared.value.Value.{Value}
use Rattle.tokei_json_tree.specs.Ordered.{keys_of, AreBefore, AreKeysInOrder}
use Rattle.tokei_json_tree.specs.Orderings.{IsOrderingOf, IsPut}
use Rattle.tokei_json_tree.proofs.Orderings.{IsOrderingSoFar, none_yet, one_more, put_there}
use Rattle.tokei_json_tree.proofs.Steps.{from_item}

abbrev Key : Type 0
Key = List ℕ

module _ (A : Type 0) where
  abbrev Entry : Type 0
  Entry = Bor (List ℕ) × Value A

  abbrev keys : List Entry → List Key
  keys es = keys_of (members_view es)

  before_more : (k : Key) (pre : List Entry) (x : Entry) → AreBefore (keys pre) x.0.now → slice_cmp nat_cmp x.0.now k ≡ Less
      → AreBefore (keys (pre ++ x ∷ [])) k
  before_more k [] x before less = (less, tt)
  before_more k (y ∷ pre) x before less =
      (nat_list_cmp_total.trans y.0.now x.0.now k before.0 less, before_more k pre x before.1 less)

  -- the first members, which stand for what they read as; a key behind the last of them is behind all
  pub record ArePlainUpTo (es : List Entry) (i : ℕ) (last : Option (Bor (List ℕ))) : Type 0 where
    pub so_far : IsOrderingSoFar (members_view es) (members_view (drop i es)) (members_view (take i es))
    pub before : (k : Key) → IfSome last (λ l. slice_cmp nat_cmp l.now k ≡ Less) → AreBefore (keys (take i es)) k

  pub none_taken : (es : List Entry) → ArePlainUpTo es 0 None
  none_taken es = record {
    so_far = none_yet (members_view es);
    before = λ k h. tt;
  }

  next_put : (es : List Entry) (i : ℕ) (x : Entry) → IsOrderingOf (value_view x.1) (value_view x.1)
      → AreBefore (keys (take i es)) x.0.now → drop i es ≡ x ∷ drop (i + 1) es
      → IsOrderingSoFar (members_view es) (members_view (drop i es)) (members_view (take i es))
      → IsOrderingSoFar (members_view es) (members_view (drop (i + 1) es)) (members_view (take i es ++ x ∷ []))
  next_put es i x plain before step so_far =
      let pre = take i es in
      let alone = append-nil pre in
      let sorted = subst (λ ys. AreKeysInOrder (members_view ys)) (sym alone) so_far.keys in
      let there = put_there _ x pre [] sorted before tt in
      one_more x.0.now (value_view x.1) (value_view x.1) (members_view es) (members_view (drop (i + 1) es)) (members_view pre)
      (members_view (pre ++ x ∷ [])) plain
      (subst (λ ys. IsPut x.0.now (value_view x.1) (members_view ys) (members_view (pre ++ x ∷ []))) alone there)
      (subst (λ ys. IsOrderingSoFar (members_view es) (members_view ys) (members_view pre)) step so_far)

  pub next_taken : (es : List Entry) (i : ℕ) (x : Entry) (last : Option (Bor (List ℕ))) → i < length es → x ≡ get_or es i x
      → IfSome last (λ l. slice_cmp nat_cmp l.now x.0.now ≡ Less) → IsOrderingOf (value_view x.1) (value_view x.1)
      → ArePlainUpTo es i last → ArePlainUpTo es (i + 1) (Some x.0)
  next_taken es i x last within e behind plain h =
      let next : suc i ≡ i + 1 = omega arith in
      let longer : take i es ++ x ∷ [] ≡ take (i + 1) es =
      ap (λ y. take i es ++ y ∷ []) e ∙ sym (take-suc es i x within) ∙ ap (λ n. take n es) next in
      let before = h.before x.0.now behind in
      record {
        so_far = subst (λ ys. IsOrderingSoFar (members_view es) (members_view (drop (i + 1) es)) (members_view ys)) longer
            (next_put es i x plain before (from_item es i x within e) h.so_far);
        before = λ k less. subst (λ ys. AreBefore (keys ys) k) longer (before_more k (take i es) x before less);
      }
