-- A place that refuses calls: the rest of the tree stays.
use Rattle.std.proofs.Common.{◌≡◌, ℕ, ◌+◌, ◌<◌, [], ◌∷◌, ◌++◌, length, get_or, take, drop, set, Bool, true, false, cond, refl, sym, ap, ◌∙◌, add-one, arith}
use Rattle.std.proofs.lemmas.List.{drop_more, set_split}
use Rattle.std.specs.Ordering.{is_eq}
use Rattle.std.specs.List.{list_all}
use Rattle.tokei_folders.specs.declared.nodes.Node.{Node}
use Rattle.tokei_folders.specs.declared.nodes.PlacedNode.{PlacedNode}
use Rattle.tokei_folders.specs.Tree.{Names, Tree, names_cmp, is_before, is_first, is_in_order, is_sound, has_names}
use Rattle.tokei_folders.proofs.NameOrder.{left_of_and, right_of_and, both}
use Rattle.tokei_memory.specs.Refusals.{changed}

abbrev with_node : Names → Node → PlacedNode
with_node p n = record { names = p; node = n }

-- a place with another node
abbrev other_node : (Node → Node) → PlacedNode → PlacedNode
other_node f e = record { names = e.names; node = f e.node }

first_by : (b : Bool) (f : Node → Node) (a : Names) (e : PlacedNode) (t rest : Tree) → is_first a (e ∷ t) ≡ true → is_first a rest ≡ true → is_first a (cond b (other_node f e ∷ t) (e ∷ rest)) ≡ true
first_by true f a e t rest h k = h
first_by false f a e t rest h k = both (is_before a e.names) (is_first a rest) (left_of_and (is_before a e.names) (is_first a t) h) k

changed_first : (f : Node → Node) (p a : Names) (t : Tree) → is_first a t ≡ true → is_first a (changed f p t) ≡ true
changed_first f p a [] h = refl
changed_first f p a (e ∷ t) h =
    first_by (is_eq (names_cmp e.names p)) f a e t (changed f p t) h (changed_first f p a t (right_of_and (is_before a e.names) (is_first a t) h))

order_by : (b : Bool) (f : Node → Node) (e : PlacedNode) (t rest : Tree)
    → is_in_order (e ∷ t) ≡ true → is_first e.names rest ≡ true → is_in_order rest ≡ true
    → is_in_order (cond b (other_node f e ∷ t) (e ∷ rest)) ≡ true
order_by true f e t rest h k m = h
order_by false f e t rest h k m = both (is_first e.names rest) (is_in_order rest) k m

changed_order : (f : Node → Node) (p : Names) (t : Tree) → is_in_order t ≡ true → is_in_order (changed f p t) ≡ true
changed_order f p [] h = refl
changed_order f p (e ∷ t) h =
    order_by (is_eq (names_cmp e.names p)) f e t (changed f p t) h
    (changed_first f p e.names t (left_of_and (is_first e.names t) (is_in_order t) h))
    (changed_order f p t (right_of_and (is_first e.names t) (is_in_order t) h))

names_by : (b : Bool) (f : Node → Node) (e : PlacedNode) (t rest : Tree)
    → list_all has_names (e ∷ t) ≡ true → list_all has_names rest ≡ true
    → list_all has_names (cond b (other_node f e ∷ t) (e ∷ rest)) ≡ true
names_by true f e t rest h k = h
names_by false f e t rest h k = both (has_names e) (list_all has_names rest) (left_of_and (has_names e) (list_all has_names t) h) k

changed_names : (f : Node → Node) (p : Names) (t : Tree) → list_all has_names t ≡ true → list_all has_names (changed f p t) ≡ true
changed_names f p [] h = refl
changed_names f p (e ∷ t) h =
    names_by (is_eq (names_cmp e.names p)) f e t (changed f p t) h (changed_names f p t (right_of_and (has_names e) (list_all has_names t) h))

pub changed_sound : (f : Node → Node) (p : Names) (t : Tree) → is_sound t ≡ true → is_sound (changed f p t) ≡ true
unfolding is_sound
changed_sound f p t h =
    both (is_in_order (changed f p t)) (list_all has_names (changed f p t))
    (changed_order f p t (left_of_and (is_in_order t) (list_all has_names t) h))
    (changed_names f p t (right_of_and (is_in_order t) (list_all has_names t) h))

at_head : (f : Node → Node) (e : PlacedNode) (t : Tree) (p : Names) (b : Bool) → is_eq (names_cmp e.names p) ≡ b → changed f p (e ∷ t) ≡ cond b (other_node f e ∷ t) (e ∷ changed f p t)
at_head f e t p b is = ap (λ (x : Bool). cond x (other_node f e ∷ t) (e ∷ changed f p t)) is

head_is : (f : Node → Node) (p : Names) (ps : Tree) (i : ℕ) (d : PlacedNode) (b : Bool)
    → i < length ps → is_eq (names_cmp (get_or ps i d).names p) ≡ b
    → changed f p (drop i ps)
    ≡ cond b (other_node f (get_or ps i d) ∷ drop (i + 1) ps)
    (get_or ps i d ∷ changed f p (drop (i + 1) ps))
head_is f p ps i d b h is = ap (changed f p) (drop_more ps i d h) ∙ at_head f (get_or ps i d) (drop (i + 1) ps) p b is

-- the change where the place stands
pub changed_here : (f : Node → Node) (p : Names) (ps qs : Tree) (i : ℕ) (d : PlacedNode) (n : Node)
    → i < length qs → ps ≡ qs → is_eq (names_cmp (get_or ps i d).names p) ≡ true
    → n ≡ f (get_or ps i d).node → changed f p qs ≡ take i qs ++ changed f p (drop i qs)
    → set ps i (record { names = (get_or ps i d).names; node = n }) ≡ changed f p qs
changed_here f p ps qs i d n g same is node so_far =
    let h : i < length ps = omega (arith, ap length same) in
    let x : PlacedNode = other_node f (get_or ps i d) in
    let put : record { names = (get_or ps i d).names; node = n } ≡ x = ap (λ (y : Node). with_node (get_or ps i d).names y) node in
    let here : changed f p ps ≡ take i ps ++ x ∷ drop (i + 1) ps =
    ap (λ (y : Tree). changed f p y) same ∙ so_far
    ∙ ap (λ (y : Tree). take i y ++ changed f p (drop i y)) (sym same)
    ∙ ap (λ (y : Tree). take i ps ++ y) (head_is f p ps i d true h is) in
    ap (set ps i) put ∙ set_split ps i x h ∙ ap (λ (k : ℕ). take i ps ++ x ∷ drop k ps) (sym (add-one i)) ∙ sym here ∙ ap (changed f p) same
