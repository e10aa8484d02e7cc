-- Where a place goes in a tree, and that the tree stays sound.
use Rattle.std.proofs.Common.{◌≡◌, ℕ, ◌+◌, ◌<◌, ◌≤◌, List, [], ◌∷◌, ◌++◌, length, get_or, take, drop, insert, true, false, Result, Ok, Err, OnOk, OnErr, reverse, ◌==◌, refl, sym, ap, ap₂, ◌∙◌, append_assoc, arith}
use Rattle.std.specs.Ordering.{match_ordering, is_lt}
use Rattle.std.specs.declared.cmp.Ordering.{Ordering}
use Rattle.std.specs.declared.cmp.Ordering.TheVariants.{Less, Equal, Greater}
use Rattle.std.specs.List.{list_all}
use Rattle.std.proofs.lemmas.Bool.Decides.{nat_tests}
use Rattle.std.proofs.lemmas.List.{drop_more, drop_all, take_more, take_all, take-append-drop, reverse-append, reverse-reverse}
use Rattle.tokei_folders.specs.declared.nodes.PlacedNode.{PlacedNode}
use Rattle.tokei_folders.specs.Tree.{Names, Tree, names_cmp, is_before, is_first, is_in_order, is_sound, has_names}
use Rattle.tokei_folders.proofs.NameOrder.{left_of_and, right_of_and, both, first_trans, greater_after}
use Rattle.tokei_memory.specs.Additions.{placed, with_all}

at_head : (ps : Tree) (i : ℕ) (e : PlacedNode) → i < length ps → e ≡ get_or ps i e → drop i ps ≡ e ∷ drop (i + 1) ps
at_head ps i e h is = drop_more ps i e h ∙ ap (λ (x : PlacedNode). x ∷ drop (i + 1) ps) (sym is)

placed_head : (e n : PlacedNode) (t : Tree) (o : Ordering) → names_cmp n.names e.names ≡ o → placed (e ∷ t) n ≡ match_ordering o (n ∷ e ∷ t) (e ∷ t) (e ∷ placed t n)
placed_head e n t o is = ap (λ (x : Ordering). match_ordering x (n ∷ e ∷ t) (e ∷ t) (e ∷ placed t n)) is

head_is : (ps : Tree) (i : ℕ) (e n : PlacedNode) (names : Names) (o : Ordering) → i < length ps
    → e ≡ get_or ps i e → n.names ≡ names → o ≡ names_cmp names e.names
    → placed (drop i ps) n
    ≡ match_ordering o (n ∷ drop i ps) (drop i ps) (e ∷ placed (drop (i + 1) ps) n)
head_is ps i e n names o h is same cmp =
    let d = at_head ps i e h is in
    let head = placed_head e n (drop (i + 1) ps) o (ap (λ (x : Names). names_cmp x e.names) same ∙ sym cmp) in
    ap (λ (x : Tree). placed x n) d ∙ head ∙ ap (λ (x : Tree). match_ordering o (n ∷ x) x (e ∷ placed (drop (i + 1) ps) n)) (sym d)

-- a place goes before the first one that follows it
pub goes_here : (ps : Tree) (i : ℕ) (e n : PlacedNode) (names : Names) → i < length ps
    → e ≡ get_or ps i e → n.names ≡ names → Less ≡ names_cmp names e.names
    → placed ps n ≡ take i ps ++ placed (drop i ps) n → placed ps n ≡ insert ps i n
goes_here ps i e n names h is same cmp so_far = so_far ∙ ap (λ (x : Tree). take i ps ++ x) (head_is ps i e n names Less h is same cmp)

pub stands_here : (ps : Tree) (i : ℕ) (e n : PlacedNode) (names : Names) → i < length ps
    → e ≡ get_or ps i e → n.names ≡ names → Equal ≡ names_cmp names e.names
    → placed ps n ≡ take i ps ++ placed (drop i ps) n → placed ps n ≡ ps
stands_here ps i e n names h is same cmp so_far = so_far ∙ ap (λ (x : Tree). take i ps ++ x) (head_is ps i e n names Equal h is same cmp) ∙ take-append-drop i ps

pub goes_on : (ps : Tree) (i : ℕ) (e n : PlacedNode) (names : Names) → i < length ps
    → e ≡ get_or ps i e → n.names ≡ names → Greater ≡ names_cmp names e.names
    → placed ps n ≡ take i ps ++ placed (drop i ps) n
    → placed ps n ≡ take (i + 1) ps ++ placed (drop (i + 1) ps) n
goes_on ps i e n names h is same cmp so_far =
    so_far ∙ ap (λ (x : Tree). take i ps ++ x) (head_is ps i e n names Greater h is same cmp) ∙ sym (append_assoc (take i ps) (e ∷ []) (placed (drop (i + 1) ps) n))
    ∙ ap (λ (x : Tree). x ++ placed (drop (i + 1) ps) n) (ap (λ (x : PlacedNode). take i ps ++ x ∷ []) is ∙ sym (take_more ps i e h))

pub goes_last : (ps : Tree) (i : ℕ) (n : PlacedNode) → length ps ≤ i → placed ps n ≡ take i ps ++ placed (drop i ps) n → placed ps n ≡ insert ps (length ps) n
goes_last ps i n h so_far =
    so_far ∙ ap (λ (x : Tree). take i ps ++ placed x n) (drop_all i ps h) ∙ ap (λ (x : Tree). x ++ n ∷ []) (take_all i ps h ∙ sym (take_all (length ps) ps (omega arith)))
    ∙ ap (λ (x : Tree). take (length ps) ps ++ n ∷ x) (sym (drop_all (length ps) ps (omega arith)))

first_of : (p : Names) (e n : PlacedNode) (t : Tree) (o : Ordering) → is_before p n.names ≡ true
    → is_first p (e ∷ t) ≡ true → is_first p (placed t n) ≡ true
    → is_first p (match_ordering o (n ∷ e ∷ t) (e ∷ t) (e ∷ placed t n)) ≡ true
first_of p e n t Less h k ih = both (is_before p n.names) (is_first p (e ∷ t)) h k
first_of p e n t Equal h k ih = k
first_of p e n t Greater h k ih = both (is_before p e.names) (is_first p (placed t n)) (left_of_and (is_before p e.names) (is_first p t) k) ih

first_placed : (p : Names) (t : Tree) (n : PlacedNode) → is_before p n.names ≡ true → is_first p t ≡ true → is_first p (placed t n) ≡ true
first_placed p [] n h k = both (is_before p n.names) true h refl
first_placed p (e ∷ t) n h k = first_of p e n t (names_cmp n.names e.names) h k (first_placed p t n h (right_of_and (is_before p e.names) (is_first p t) k))

order_of : (e n : PlacedNode) (t : Tree) (o : Ordering) → names_cmp n.names e.names ≡ o
    → is_in_order (e ∷ t) ≡ true → is_in_order (placed t n) ≡ true
    → is_in_order (match_ordering o (n ∷ e ∷ t) (e ∷ t) (e ∷ placed t n)) ≡ true
order_of e n t Less is k ih =
    let before : is_before n.names e.names ≡ true = ap is_lt is in
    both (is_first n.names (e ∷ t)) (is_in_order (e ∷ t))
    (both (is_before n.names e.names) (is_first n.names t) before
    (first_trans n.names e.names t before
    (left_of_and (is_first e.names t) (is_in_order t) k)))
    k
order_of e n t Equal is k ih = k
order_of e n t Greater is k ih =
    both (is_first e.names (placed t n)) (is_in_order (placed t n))
    (first_placed e.names t n (greater_after n.names e.names is)
    (left_of_and (is_first e.names t) (is_in_order t) k))
    ih

placed_order : (t : Tree) (n : PlacedNode) → is_in_order t ≡ true → is_in_order (placed t n) ≡ true
placed_order [] n k = refl
placed_order (e ∷ t) n k = order_of e n t (names_cmp n.names e.names) refl k (placed_order t n (right_of_and (is_first e.names t) (is_in_order t) k))

names_of_all : (e n : PlacedNode) (t : Tree) (o : Ordering) → has_names n ≡ true
    → list_all has_names (e ∷ t) ≡ true → list_all has_names (placed t n) ≡ true
    → list_all has_names (match_ordering o (n ∷ e ∷ t) (e ∷ t) (e ∷ placed t n)) ≡ true
names_of_all e n t Less h k ih = both (has_names n) (list_all has_names (e ∷ t)) h k
names_of_all e n t Equal h k ih = k
names_of_all e n t Greater h k ih = both (has_names e) (list_all has_names (placed t n)) (left_of_and (has_names e) (list_all has_names t) k) ih

placed_names : (t : Tree) (n : PlacedNode) → has_names n ≡ true → list_all has_names t ≡ true → list_all has_names (placed t n) ≡ true
placed_names [] n h k = both (has_names n) true h refl
placed_names (e ∷ t) n h k = names_of_all e n t (names_cmp n.names e.names) h k (placed_names t n h (right_of_and (has_names e) (list_all has_names t) k))

pub placed_sound : (t : Tree) (n : PlacedNode) → has_names n ≡ true → is_sound t ≡ true → is_sound (placed t n) ≡ true
unfolding is_sound
placed_sound t n h k =
    both (is_in_order (placed t n)) (list_all has_names (placed t n))
    (placed_order t n (left_of_and (is_in_order t) (list_all has_names t) k))
    (placed_names t n h (right_of_and (is_in_order t) (list_all has_names t) k))

pub all_sound : (t : Tree) (ns : List PlacedNode) → list_all has_names ns ≡ true → is_sound t ≡ true → is_sound (with_all t ns) ≡ true
unfolding with_all
all_sound t [] h k = k
all_sound t (n ∷ ns) h k = all_sound (placed t n) ns (right_of_and (has_names n) (list_all has_names ns) h) (placed_sound t n (left_of_and (has_names n) (list_all has_names ns) h) k)

-- below the top
past_top : (ns : Names) → (length ns == 0) ≡ false → names_cmp ns [] ≡ Greater
past_top [] e = absurd (cc)
past_top (n ∷ ns) e = refl

pub under_top : (top n : PlacedNode) (ps qs : Tree) → top.names ≡ [] → (length n.names == 0) ≡ false → qs ≡ placed ps n → top ∷ qs ≡ placed (top ∷ ps) n
under_top top n ps qs is h e = ap (λ (q : Tree). top ∷ q) e ∙ sym (placed_head top n ps Greater (ap (names_cmp n.names) is ∙ past_top n.names h))

at_top : (ns : Names) → (length ns == 0) ≡ true → ns ≡ []
at_top [] e = refl
at_top (n ∷ ns) e = absurd (grind (arith, nat_tests))

-- at the top itself
pub on_top : (top n : PlacedNode) (ps : Tree) → top.names ≡ [] → (length n.names == 0) ≡ true → top ∷ ps ≡ placed (top ∷ ps) n
on_top top n ps is h = sym (placed_head top n ps Equal (ap (names_cmp n.names) is ∙ ap (λ (x : Names). names_cmp x []) (at_top n.names h)))

pub with_step : (t : Tree) (n : PlacedNode) (ns : List PlacedNode) → with_all t (n ∷ ns) ≡ with_all (placed t n) ns
unfolding with_all
with_step t n ns = refl

pub with_none : (t : Tree) → with_all t [] ≡ t
unfolding with_all
with_none t = refl

-- what is added in turn
pub added_next : (start t next : Tree) (ns rest : List PlacedNode) (all : List PlacedNode)
    (n : PlacedNode)
    → ns ≡ rest ++ n ∷ [] → next ≡ placed t n → with_all start all ≡ with_all t (reverse ns)
    → with_all start all ≡ with_all next (reverse rest)
added_next start t next ns rest all n is put so_far =
    so_far ∙ ap (with_all t) (ap reverse is ∙ reverse-append rest (n ∷ [])) ∙ with_step t n (reverse rest) ∙ ap (λ (x : Tree). with_all x (reverse rest)) (sym put)

pub added_all : (start t : Tree) (ns left given : List PlacedNode) → left ≡ [] → given ≡ reverse ns → with_all start (reverse given) ≡ with_all t (reverse left) → t ≡ with_all start ns
added_all start t ns left given none is so_far =
    sym (ap (with_all start) (sym (ap reverse is ∙ reverse-reverse ns)) ∙ so_far ∙ ap (λ (x : List PlacedNode). with_all t (reverse x)) none ∙ with_none t)

-- a tree to which a list is added
pub all_put : {E : Type 0} (r : Result (Unit {0}) E) (top : PlacedNode) (whole old new : Tree)
    (ns all : List PlacedNode)
    → top.names ≡ [] → top ∷ old ≡ whole → ns ≡ all
    → OnOk r ((t : PlacedNode) → t.names ≡ [] → t ∷ new ≡ with_all (t ∷ old) ns)
    → OnOk r (top ∷ new ≡ with_all whole all)
all_put (Ok u) top whole old new ns all is seen same put = put top is ∙ ap₂ (λ (x : Tree) (y : List PlacedNode). with_all x y) seen same
all_put (Err e) top whole old new ns all is seen same put = tt

-- a tree that is added to, or left as it was
pub sound_after : {E : Type 0} (r : Result (Unit {0}) E) (top : PlacedNode) (old new : Tree)
    (ns : List PlacedNode)
    → top.names ≡ [] → OnOk r ((t : PlacedNode) → t.names ≡ [] → t ∷ new ≡ with_all (t ∷ old) ns)
    → OnErr r (new ≡ old) → is_sound (top ∷ old) ≡ true → list_all has_names ns ≡ true
    → is_sound (top ∷ new) ≡ true
sound_after (Ok u) top old new ns is ok err h k = ap is_sound (ok top is) ∙ all_sound (top ∷ old) ns k h
sound_after (Err e) top old new ns is ok err h k = ap (λ (x : Tree). is_sound (top ∷ x)) err ∙ h
