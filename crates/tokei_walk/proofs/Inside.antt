-- The part of a tree below a folder, by the names from the folder down.
use Rattle.std.proofs.Common.{◌≡◌, ℕ, List, [], ◌∷◌, ◌++◌, Bool, true, false, cond, Option, Some, None, refl, sym, ap, ap₂, ◌∙◌}
use Rattle.std.specs.Cmp.Lexicographic.{slice_cmp}
use Rattle.std.specs.List.{list_all}
use Rattle.std.specs.Ordering.{is_lt, is_eq, nat_cmp, ordering_then, ordering_reverse}
use Rattle.std.specs.declared.cmp.Ordering.{Ordering}
use Rattle.std.specs.declared.cmp.Ordering.TheVariants.{Less, Equal, Greater}
use Rattle.std.proofs.lemmas.Cmp.{nat_list_cmp_total, tied_itself}
use Rattle.std.proofs.lemmas.Map.Lookups.{exact_bytes}
use Rattle.tokei_folders.specs.declared.fs.Entry.{Entry}
use Rattle.tokei_folders.specs.declared.nodes.Node.{Node}
use Rattle.tokei_folders.specs.declared.nodes.PlacedNode.{PlacedNode}
use Rattle.tokei_folders.specs.Answers.{entries_in, entry_named, only_name}
use Rattle.tokei_folders.specs.Tree.{Names, Tree, names_cmp, is_before, is_first, is_in_order, has_names, is_whole_name, node_at, below}
use Rattle.tokei_folders.proofs.NameOrder.{left_of_and, right_of_and, both}

abbrev pub name_cmp : List ℕ → List ℕ → Ordering
name_cmp = slice_cmp nat_cmp

-- a place below a folder comes into its part
abbrev pub put_below : Option Names → Node → Tree → Tree
put_below None n t = t
put_below (Some ns) n t = record { names = ns; node = n } ∷ t

abbrev pub inside : Names → Tree → Tree
inside p [] = []
inside p (e ∷ t) = put_below (below p e.names) e.node (inside p t)

is_equal : (o : Ordering) → is_eq o ≡ true → o ≡ Equal
is_equal Less e = absurd (cc)
is_equal Equal e = refl
is_equal Greater e = absurd (cc)

-- names that compare as equal are the same
pub same_name : (m n : List ℕ) → is_eq (name_cmp m n) ≡ true → m ≡ n
same_name m n e = exact_bytes m n (is_equal (name_cmp m n) e)

pub itself : (m : List ℕ) → name_cmp m m ≡ Equal
itself m = tied_itself nat_list_cmp_total m

pub record Opened (b : Bool) (o : Option Names) (ns : Names) : Type 0 where
  pub holds : b ≡ true
  pub is : o ≡ Some ns

pub opened : (b : Bool) (o : Option Names) (ns : Names) → cond b o None ≡ Some ns → Opened b o ns
opened true o ns e = record { holds = refl; is = e }
opened false o ns e = absurd (cc)

-- two places below a folder are ordered as what they are called from there
pub below_cmp : (q a b us bs : Names) → below q a ≡ Some us → below q b ≡ Some bs → names_cmp a b ≡ names_cmp us bs
below_cmp [] a b us bs e f = let x : a ≡ us = cc in let y : b ≡ bs = cc in ap₂ names_cmp x y
below_cmp (d ∷ ds) [] b us bs e f = absurd (cc)
below_cmp (d ∷ ds) (n ∷ ns) [] us bs e f = absurd (cc)
below_cmp (d ∷ ds) (n ∷ ns) (k ∷ ks) us bs e f =
    let x = opened (is_eq (name_cmp d n)) (below ds ns) us e in let y = opened (is_eq (name_cmp d k)) (below ds ks) bs f in
    let same : n ≡ k = sym (same_name d n x.holds) ∙ same_name d k y.holds in
    ap (λ (o : Ordering). ordering_then o (names_cmp ns ks)) (ap (name_cmp n) (sym same) ∙ itself n) ∙ below_cmp ds ns ks us bs x.is y.is

pub below_append : (q ns : Names) → below q (q ++ ns) ≡ Some ns
below_append [] ns = refl
below_append (d ∷ ds) ns = ap (λ (o : Ordering). cond (is_eq o) (below ds (ds ++ ns)) None) (itself d) ∙ below_append ds ns

put_first : (q a us : Names) (e : PlacedNode) (t : Tree) (o : Option Names) → below q a ≡ Some us
    → below q e.names ≡ o → is_before a e.names ≡ true → is_first us t ≡ true
    → is_first us (put_below o e.node t) ≡ true
put_first q a us e t None h is k m = m
put_first q a us e t (Some bs) h is k m = both (is_before us bs) (is_first us t) (ap is_lt (sym (below_cmp q a e.names us bs h is)) ∙ k) m

inside_first : (q a us : Names) (t : Tree) → below q a ≡ Some us → is_first a t ≡ true → is_first us (inside q t) ≡ true
inside_first q a us [] h k = refl
inside_first q a us (e ∷ t) h k =
    put_first q a us e (inside q t) (below q e.names) h refl (left_of_and (is_before a e.names) (is_first a t) k) (inside_first q a us t h (right_of_and (is_before a e.names) (is_first a t) k))

put_order : (q : Names) (e : PlacedNode) (t : Tree) (o : Option Names) → below q e.names ≡ o
    → is_first e.names t ≡ true → is_in_order (inside q t) ≡ true
    → is_in_order (put_below o e.node (inside q t)) ≡ true
put_order q e t None is h k = k
put_order q e t (Some bs) is h k = both (is_first bs (inside q t)) (is_in_order (inside q t)) (inside_first q e.names bs t is h) k

-- the part stands in order too
pub inside_order : (q : Names) (t : Tree) → is_in_order t ≡ true → is_in_order (inside q t) ≡ true
inside_order q [] h = refl
inside_order q (e ∷ t) h = put_order q e t (below q e.names) refl (left_of_and (is_first e.names t) (is_in_order t) h) (inside_order q t (right_of_and (is_first e.names t) (is_in_order t) h))

pub whole_below : (q ns bs : Names) → below q ns ≡ Some bs → list_all is_whole_name ns ≡ true → list_all is_whole_name bs ≡ true
whole_below [] ns bs e h = let x : bs ≡ ns = cc in ap (list_all is_whole_name) x ∙ h
whole_below (d ∷ ds) [] bs e h = absurd (cc)
whole_below (d ∷ ds) (n ∷ ns) bs e h = whole_below ds ns bs (opened (is_eq (name_cmp d n)) (below ds ns) bs e).is (right_of_and (is_whole_name n) (list_all is_whole_name ns) h)

put_names : (q : Names) (e : PlacedNode) (t : Tree) (o : Option Names) → below q e.names ≡ o → has_names e ≡ true → list_all has_names t ≡ true → list_all has_names (put_below o e.node t) ≡ true
put_names q e t None is h k = k
put_names q e t (Some bs) is h k = both (list_all is_whole_name bs) (list_all has_names t) (whole_below q e.names bs is h) k

-- and has whole names
pub inside_names : (q : Names) (t : Tree) → list_all has_names t ≡ true → list_all has_names (inside q t) ≡ true
inside_names q [] h = refl
inside_names q (e ∷ t) h =
    put_names q e (inside q t) (below q e.names) refl
    (left_of_and (has_names e) (list_all has_names t) h)
    (inside_names q t (right_of_and (has_names e) (list_all has_names t) h))

abbrev then_below : Option Names → Names → Option Names
then_below None r = None
then_below (Some ns) r = below r ns

then_cond : (b : Bool) (o : Option Names) (r : Names) → then_below (cond b o None) r ≡ cond b (then_below o r) None
then_cond true o r = refl
then_cond false o r = refl

below_further : (q r x : Names) → below (q ++ r) x ≡ then_below (below q x) r
below_further [] r x = refl
below_further (d ∷ ds) r [] = refl
below_further (d ∷ ds) r (n ∷ ns) = ap (λ (o : Option Names). cond (is_eq (name_cmp d n)) o None) (below_further ds r ns) ∙ sym (then_cond (is_eq (name_cmp d n)) (below ds ns) r)

put_further : (o : Option Names) (r : Names) (n : Node) (t : Tree) → put_below (then_below o r) n (inside r t) ≡ inside r (put_below o n t)
put_further None r n t = refl
put_further (Some ns) r n t = refl

-- the part of a folder in the part of a folder that holds it
pub inside_further : (q r : Names) (t : Tree) → inside (q ++ r) t ≡ inside r (inside q t)
inside_further q r [] = refl
inside_further q r (e ∷ t) =
    ap₂ (λ (o : Option Names) (x : Tree). put_below o e.node x) (below_further q r e.names) (inside_further q r t) ∙ put_further (below q e.names) r e.node (inside q t)

pub first_unequal : (o p : Ordering) → is_eq o ≡ false → is_eq (ordering_then o p) ≡ false
first_unequal Less p e = refl
first_unequal Equal p e = absurd (cc)
first_unequal Greater p e = refl

rest_unequal : (o p : Ordering) → is_eq p ≡ false → is_eq (ordering_then o p) ≡ false
rest_unequal Less p e = refl
rest_unequal Equal p e = e
rest_unequal Greater p e = refl

unequal_back : (o p : Ordering) → p ≡ ordering_reverse o → is_eq o ≡ false → is_eq p ≡ false
unequal_back Less p e h = ap is_eq e
unequal_back Equal p e h = absurd (cc)
unequal_back Greater p e h = ap is_eq e

pub other_back : (m n : List ℕ) → is_eq (name_cmp m n) ≡ false → is_eq (name_cmp n m) ≡ false
other_back m n h = unequal_back (name_cmp m n) (name_cmp n m) (nat_list_cmp_total.antisymm n m) h

unequal_by : (b : Bool) (d n : List ℕ) (o : Option Names) (p : Ordering) → is_eq (name_cmp d n) ≡ b
    → cond b o None ≡ None → (o ≡ None → is_eq p ≡ false)
    → is_eq (ordering_then (name_cmp n d) p) ≡ false
unequal_by true d n o p is e rest = rest_unequal (name_cmp n d) p (rest e)
unequal_by false d n o p is e rest = first_unequal (name_cmp n d) p (other_back d n is)

outside_unequal : (q x ns : Names) → below q x ≡ None → is_eq (names_cmp x (q ++ ns)) ≡ false
outside_unequal [] x ns e = absurd (cc)
outside_unequal (d ∷ ds) [] ns e = refl
outside_unequal (d ∷ ds) (n ∷ x) ns e = unequal_by (is_eq (name_cmp d n)) d n (below ds x) (names_cmp x (ds ++ ns)) refl e (outside_unequal ds x ns)

node_by : (q ns : Names) (e : PlacedNode) (t : Tree) (o : Option Names) (rest : Option Node)
    → below q e.names ≡ o → node_at t ns ≡ rest
    → node_at (put_below o e.node t) ns
    ≡ cond (is_eq (names_cmp e.names (q ++ ns))) (Some e.node) rest
node_by q ns e t None rest is h = h ∙ ap (λ (b : Bool). cond b (Some e.node) rest) (sym (outside_unequal q e.names ns is))
node_by q ns e t (Some bs) rest is h =
    ap₂ (λ (b : Bool) (o : Option Node). cond b (Some e.node) o) (ap is_eq (sym (below_cmp q e.names (q ++ ns) bs ns is (below_append q ns)))) h

-- what stands in the part is what stands in the tree
pub node_inside : (q ns : Names) (t : Tree) → node_at (inside q t) ns ≡ node_at t (q ++ ns)
node_inside q ns [] = refl
node_inside q ns (e ∷ t) = node_by q ns e (inside q t) (below q e.names) (node_at t (q ++ ns)) refl (node_inside q ns t)

entries_by : (o : Option Names) (n : Node) (t : Tree) (es : List Entry) → es ≡ entries_in [] t → entry_named (only_name o) n es ≡ entries_in [] (put_below o n t)
entries_by None n t es e = e
entries_by (Some ns) n t es e = ap (entry_named (only_name (Some ns)) n) e

-- a folder's entries are those of its part
pub entries_inside : (q : Names) (t : Tree) → entries_in q t ≡ entries_in [] (inside q t)
entries_inside q [] = refl
entries_inside q (e ∷ t) = entries_by (below q e.names) e.node (inside q t) (entries_in q t) (entries_inside q t)
