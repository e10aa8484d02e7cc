-- A sound part of a tree gives, place by place, what its folder's entries give, each with all that lies below it.
use Rattle.std.proofs.Common.{◌≡◌, ℕ, List, [], ◌∷◌, ◌++◌, Bool, true, false, cond, Option, Some, None, refl, sym, ap, ap₂, ◌∙◌, append_assoc}
use Rattle.std.specs.List.{flat_map, list_all}
use Rattle.std.specs.Ordering.{is_lt, is_eq, ordering_then, ordering_reverse}
use Rattle.std.specs.declared.cmp.Ordering.{Ordering}
use Rattle.std.specs.declared.cmp.Ordering.TheVariants.{Less, Equal, Greater}
use Rattle.std.proofs.lemmas.Cmp.{nat_list_cmp_total}
use Rattle.tokei_walk.specs.declared.kept_file.KeptFile.{KeptFile}
use Rattle.tokei_folders.specs.declared.nodes.Node.{Node}
use Rattle.tokei_folders.specs.declared.nodes.Node.TheVariants.{File as file, Folder as folder}
use Rattle.tokei_folders.specs.declared.nodes.PlacedNode.{PlacedNode}
use Rattle.tokei_folders.specs.Answers.{can_list}
use Rattle.tokei_folders.specs.Tree.{Names, Tree, names_cmp, is_before, is_first, is_in_order, has_names, is_whole_name, node_at, below}
use Rattle.tokei_walk.proofs.Inside.{name_cmp, inside, put_below, same_name, itself, other_back, first_unequal}
use Rattle.tokei_folders.proofs.NameOrder.{left_of_and, right_of_and, first_trans, names_total}

-- what a place gives by its names and its node, where a folder's entry has a name and what follows it
abbrev pub Gives : Type 0
Gives = List ℕ → Names → Node → List KeptFile

abbrev pub place_gives : Gives → (List ℕ → List KeptFile) → Names → Node → List KeptFile
place_gives f s [] n = []
place_gives f s (m ∷ []) (file r h content) = s m
place_gives f s (m ∷ []) (folder r) = []
place_gives f s (m ∷ l ∷ ms) n = f m (l ∷ ms) n

-- all places, each for itself
abbrev pub all_give : Gives → (List ℕ → List KeptFile) → Tree → List KeptFile
all_give f s t = flat_map (λ (e : PlacedNode). place_gives f s e.names e.node) t

-- the entries alone
abbrev pub entry_gives : (List ℕ → List KeptFile) → (List ℕ → List KeptFile) → Names → Node → List KeptFile
entry_gives x s [] n = []
entry_gives x s (m ∷ []) (file r h content) = s m
entry_gives x s (m ∷ []) (folder r) = x m
entry_gives x s (m ∷ l ∷ ms) n = []

abbrev pub entries_give : (List ℕ → List KeptFile) → (List ℕ → List KeptFile) → Tree → List KeptFile
entries_give x s t = flat_map (λ (e : PlacedNode). entry_gives x s e.names e.node) t

-- all places below an entry
abbrev pub group : Gives → Tree → List ℕ → List KeptFile
group f t m = flat_map (λ (e : PlacedNode). f m e.names e.node) (inside (m ∷ []) t)

-- without what lies below an entry
abbrev without : Gives → List ℕ → Gives
without f m k ms n = cond (is_eq (name_cmp k m)) [] (f k ms n)

-- an entry itself gives nothing as a place below it
abbrev pub Ends : Gives → Type 0
Ends f = (m : List ℕ) (n : Node) → f m [] n ≡ []

-- below an entry that is no folder that can be listed, nothing is given
abbrev pub Closed : Gives → Tree → Type 0
Closed f t = (m : List ℕ) → can_list (node_at t (m ∷ [])) ≡ false → (ms : Names) (n : Node) → f m ms n ≡ []

-- a fact of the names of all entries
abbrev OneNamed : (List ℕ → Type 0) → Names → Type 0
OneNamed P [] = Unit {0}
OneNamed P (m ∷ []) = P m
OneNamed P (m ∷ l ∷ ms) = Unit {0}

abbrev pub Named : (List ℕ → Type 0) → Tree → Type 0
Named P [] = Unit {0}
Named P (e ∷ t) = OneNamed P e.names × Named P t

entry_same : (P : List ℕ → Type 0) (x y s : List ℕ → List KeptFile) (ns : Names) (n : Node) → OneNamed P ns → ((m : List ℕ) → P m → x m ≡ y m) → entry_gives x s ns n ≡ entry_gives y s ns n
entry_same P x y s [] n h e = refl
entry_same P x y s (m ∷ []) (file a b c) h e = refl
entry_same P x y s (m ∷ []) (folder a) h e = e m h
entry_same P x y s (m ∷ l ∷ ms) n h e = refl

pub entries_same : (P : List ℕ → Type 0) (x y s : List ℕ → List KeptFile) (t : Tree) → Named P t → ((m : List ℕ) → P m → x m ≡ y m) → entries_give x s t ≡ entries_give y s t
entries_same P x y s [] h e = refl
entries_same P x y s (a ∷ t) h e = ap₂ (λ (u v : List KeptFile). u ++ v) (entry_same P x y s a.names a.node h.0 e) (entries_same P x y s t h.1 e)

abbrev Any : List ℕ → Type 0
Any m = Unit {0}

one_any : (ns : Names) → OneNamed Any ns
one_any [] = tt
one_any (m ∷ []) = tt
one_any (m ∷ l ∷ ms) = tt

all_any : (t : Tree) → Named Any t
all_any [] = tt
all_any (e ∷ t) = (one_any e.names, all_any t)

all_same : (x y s : List ℕ → List KeptFile) (t : Tree) → ((m : List ℕ) → x m ≡ y m) → entries_give x s t ≡ entries_give y s t
all_same x y s t e = entries_same Any x y s t (all_any t) (λ m u. e m)

one_whole : (ns : Names) → list_all is_whole_name ns ≡ true → OneNamed (λ m. is_whole_name m ≡ true) ns
one_whole [] h = tt
one_whole (m ∷ []) h = left_of_and (is_whole_name m) true h
one_whole (m ∷ l ∷ ms) h = tt

pub named_whole : (t : Tree) → list_all has_names t ≡ true → Named (λ m. is_whole_name m ≡ true) t
named_whole [] h = tt
named_whole (e ∷ t) h = (one_whole e.names (left_of_and (has_names e) (list_all has_names t) h), named_whole t (right_of_and (has_names e) (list_all has_names t) h))

-- the first name of what follows
less_other : (o p : Ordering) → p ≡ ordering_reverse o → is_lt (ordering_then o Equal) ≡ true → is_eq p ≡ false
less_other Less p e h = ap is_eq e
less_other Equal p e h = absurd (cc)
less_other Greater p e h = absurd (cc)

one_other : (m : List ℕ) (ns : Names) → is_before (m ∷ []) ns ≡ true → OneNamed (λ k. is_eq (name_cmp k m) ≡ false) ns
one_other m [] h = tt
one_other m (k ∷ []) h = less_other (name_cmp m k) (name_cmp k m) (nat_list_cmp_total.antisymm k m) h
one_other m (k ∷ l ∷ ms) h = tt

named_other : (m : List ℕ) (t : Tree) → is_first (m ∷ []) t ≡ true → Named (λ k. is_eq (name_cmp k m) ≡ false) t
named_other m [] h = tt
named_other m (e ∷ t) h = (one_other m e.names (left_of_and (is_before (m ∷ []) e.names) (is_first (m ∷ []) t) h), named_other m t (right_of_and (is_before (m ∷ []) e.names) (is_first (m ∷ []) t) h))

not_before : (a b : Names) (o : Ordering) → names_cmp b a ≡ o → ordering_reverse o ≡ names_cmp a b → is_before a b ≡ true → is_eq o ≡ false
not_before a b Less is e h = refl
not_before a b Equal is e h = absurd (let f = ap is_lt e in cc)
not_before a b Greater is e h = refl

absent_by : (p : Names) (e : PlacedNode) (t : Tree) → is_eq (names_cmp e.names p) ≡ false → node_at (e ∷ t) p ≡ node_at t p
absent_by p e t h = ap (λ (b : Bool). cond b (Some e.node) (node_at t p)) h

-- nothing stands at a place before the first one
absent : (p : Names) (t : Tree) → is_first p t ≡ true → node_at t p ≡ None
absent p [] h = refl
absent p (e ∷ t) h =
    let before = left_of_and (is_before p e.names) (is_first p t) h in
    absent_by p e t (not_before p e.names (names_cmp e.names p) refl (sym (names_total.antisymm p e.names)) before) ∙ absent p t (right_of_and (is_before p e.names) (is_first p t) h)

-- behind a place with a greater first name, nothing lies below the name
gone_by : (o p q : Ordering) (r : Ordering) → o ≡ Less → is_lt (ordering_then p r) ≡ true → (p ≡ Less → q ≡ Less) → (p ≡ Equal → q ≡ o) → is_eq q ≡ false
gone_by o Less q r is h less equal = ap is_eq (less refl)
gone_by o Equal q r is h less equal = ap is_eq (equal refl ∙ is)
gone_by o Greater q r is h less equal = absurd (cc)

equal_right : (m k j : List ℕ) → name_cmp k j ≡ Equal → name_cmp m j ≡ name_cmp m k
equal_right m k j e = sym (ap (name_cmp m) (same_name k j (ap is_eq e)))

gone_place : (m k : List ℕ) (r ns : Names) (n : Node) (t : Tree) → name_cmp m k ≡ Less → is_before (k ∷ r) ns ≡ true → put_below (below (m ∷ []) ns) n t ≡ t
gone_place m k r [] n t e h = refl
gone_place m k r (j ∷ ns) n t e h =
    let other = gone_by (name_cmp m k) (name_cmp k j) (name_cmp m j) (names_cmp r ns) e h (nat_list_cmp_total.trans m k j e) (equal_right m k j) in
    ap (λ (b : Bool). put_below (cond b (Some ns) None) n t) other

group_gone : (m k : List ℕ) (r : Names) (t : Tree) → name_cmp m k ≡ Less → is_first (k ∷ r) t ≡ true → inside (m ∷ []) t ≡ []
group_gone m k r [] e h = refl
group_gone m k r (a ∷ t) e h =
    gone_place m k r a.names a.node (inside (m ∷ []) t) e
    (left_of_and (is_before (k ∷ r) a.names) (is_first (k ∷ r) t) h)
    ∙ group_gone m k r t e (right_of_and (is_before (k ∷ r) a.names) (is_first (k ∷ r) t) h)

-- an entry that isn't dropped is split off with all that lies below it
abbrev Splits : Gives → (List ℕ → List KeptFile) → List ℕ → Tree → Type 0
Splits f s m t = all_give f s t ≡ group f t m ++ all_give (without f m) s t

-- a place below the entry
split_same : (f : Gives) (s : List ℕ → List KeptFile) (m k l : List ℕ) (ms : Names) (n : Node)
    (t : Tree)
    → name_cmp m k ≡ Equal → Splits f s m t
    → Splits f s m (record { names = k ∷ l ∷ ms; node = n } ∷ t)
split_same f s m k l ms n t e ih =
    let same : m ≡ k = same_name m k (ap is_eq e) in
    let back : name_cmp k m ≡ Equal = ap (λ (x : List ℕ). name_cmp k x) same ∙ itself k in
    let below_it : group f (record { names = k ∷ l ∷ ms; node = n } ∷ t) m
    ≡ f m (l ∷ ms) n ++ group f t m =
    ap
    (λ (o : Ordering). flat_map (λ (e : PlacedNode). f m e.names e.node)
    (put_below (cond (is_eq o) (Some (l ∷ ms)) None) n (inside (m ∷ []) t)))
    e in
    let rest : all_give (without f m) s (record { names = k ∷ l ∷ ms; node = n } ∷ t)
    ≡ all_give (without f m) s t =
    ap (λ (o : Ordering). cond (is_eq o) [] (f k (l ∷ ms) n) ++ all_give (without f m) s t) back in
    ap₂ (λ (x : List ℕ) (y : List KeptFile). f x (l ∷ ms) n ++ y) (sym same) ih ∙ sym (append_assoc (f m (l ∷ ms) n) (group f t m) (all_give (without f m) s t))
    ∙ sym (ap₂ (λ (x y : List KeptFile). x ++ y) below_it rest)

without_other : (f : Gives) (s : List ℕ → List KeptFile) (m k : List ℕ) (ns : Names) (n : Node) → is_eq (name_cmp k m) ≡ false → place_gives f s (k ∷ ns) n ≡ place_gives (without f m) s (k ∷ ns) n
without_other f s m k [] (file a b c) e = refl
without_other f s m k [] (folder a) e = refl
without_other f s m k (l ∷ ms) n e = sym (ap (λ (b : Bool). cond b [] (f k (l ∷ ms) n)) e)

-- a place behind the entry and all that lies below it
split_other : (f : Gives) (s : List ℕ → List KeptFile) (m k : List ℕ) (ns : Names) (n : Node)
    (t : Tree)
    → name_cmp m k ≡ Less → is_first (k ∷ ns) t ≡ true → Splits f s m t
    → Splits f s m (record { names = k ∷ ns; node = n } ∷ t)
split_other f s m k ns n t e first ih =
    let other : is_eq (name_cmp k m) ≡ false = other_back m k (ap is_eq e) in
    let gone : inside (m ∷ []) t ≡ [] = group_gone m k ns t e first in
    let rest : all_give f s t ≡ all_give (without f m) s t = ih ∙ ap (λ (x : Tree). flat_map (λ (e : PlacedNode). f m e.names e.node) x ++ all_give (without f m) s t) gone in
    let none : group f (record { names = k ∷ ns; node = n } ∷ t) m ≡ [] =
    ap₂
    (λ (o : Ordering) (x : Tree). flat_map (λ (e : PlacedNode). f m e.names e.node)
    (put_below (cond (is_eq o) (Some ns) None) n x))
    e gone in
    ap₂ (λ (x y : List KeptFile). x ++ y) (without_other f s m k ns n other) rest ∙ sym (ap (λ (x : List KeptFile). x ++ all_give (without f m) s (record { names = k ∷ ns; node = n } ∷ t)) none)

split_by : (f : Gives) (s : List ℕ → List KeptFile) (m k : List ℕ) (ns : Names) (n : Node)
    (t : Tree) (o : Ordering)
    → name_cmp m k ≡ o → is_lt (ordering_then o (names_cmp [] ns)) ≡ true
    → is_first (k ∷ ns) t ≡ true → Splits f s m t
    → Splits f s m (record { names = k ∷ ns; node = n } ∷ t)
split_by f s m k ns n t Less e h first ih = split_other f s m k ns n t e first ih
split_by f s m k [] n t Equal e h first ih = absurd (cc)
split_by f s m k (l ∷ ms) n t Equal e h first ih = split_same f s m k l ms n t e ih
split_by f s m k ns n t Greater e h first ih = absurd (cc)

split_place : (f : Gives) (s : List ℕ → List KeptFile) (m : List ℕ) (ns : Names) (n : Node)
    (t : Tree)
    → is_before (m ∷ []) ns ≡ true → is_first ns t ≡ true → Splits f s m t
    → Splits f s m (record { names = ns; node = n } ∷ t)
split_place f s m [] n t h first ih = absurd (cc)
split_place f s m (k ∷ ns) n t h first ih =
    let before : is_lt (ordering_then (name_cmp m k) (names_cmp [] ns)) ≡ true = h in
    split_by f s m k ns n t (name_cmp m k) refl before first ih

split_group : (f : Gives) (s : List ℕ → List KeptFile) (m : List ℕ) (t : Tree) → is_first (m ∷ []) t ≡ true → is_in_order t ≡ true → Splits f s m t
split_group f s m [] h k = refl
split_group f s m (e ∷ t) h k =
    split_place f s m e.names e.node t (left_of_and (is_before (m ∷ []) e.names) (is_first (m ∷ []) t) h) (left_of_and (is_first e.names t) (is_in_order t) k)
    (split_group f s m t (right_of_and (is_before (m ∷ []) e.names) (is_first (m ∷ []) t) h) (right_of_and (is_first e.names t) (is_in_order t) k))

-- an entry adds nothing to what lies below entries
skip_by : (f : Gives) (n : Node) (t : Tree) (k : List ℕ) (b : Bool) → Ends f → flat_map (λ (e : PlacedNode). f k e.names e.node) (put_below (cond b (Some []) None) n (inside (k ∷ []) t)) ≡ group f t k
skip_by f n t k true ends = ap (λ (x : List KeptFile). x ++ group f t k) (ends k n)
skip_by f n t k false ends = refl

skip_end : (f : Gives) (m : List ℕ) (n : Node) (t : Tree) (k : List ℕ) → Ends f → group f (record { names = m ∷ []; node = n } ∷ t) k ≡ group f t k
skip_end f m n t k ends = skip_by f n t k (is_eq (name_cmp k m)) ends

deep_by : (f : Gives) (m : List ℕ) (ms : Names) (n : Node) (t : Tree) (k : List ℕ) (b : Bool)
    → is_eq (name_cmp k m) ≡ b → f m ms n ≡ []
    → flat_map (λ (e : PlacedNode). f k e.names e.node)
    (put_below (cond b (Some ms) None) n (inside (k ∷ []) t))
    ≡ group f t k
deep_by f m ms n t k true is none = ap (λ (x : List KeptFile). x ++ group f t k) (ap (λ (x : List ℕ). f x ms n) (same_name k m is) ∙ none)
deep_by f m ms n t k false is none = refl

-- nor does a place below an entry that isn't there
skip_deep : (f : Gives) (m l : List ℕ) (ms : Names) (n : Node) (t : Tree) (k : List ℕ) → f m (l ∷ ms) n ≡ [] → group f (record { names = m ∷ l ∷ ms; node = n } ∷ t) k ≡ group f t k
skip_deep f m l ms n t k none = deep_by f m (l ∷ ms) n t k (is_eq (name_cmp k m)) refl none

-- what all places of a part give is what its entries give
abbrev Grouped : (List ℕ → List KeptFile) → Tree → Type 0
Grouped s t = (f : Gives) → Ends f → Closed f t → entries_give (group f t) s t ≡ all_give f s t

closed_by : (b : Bool) (n : Node) (o : Option Node) → can_list (Some n) ≡ false → can_list o ≡ false → can_list (cond b (Some n) o) ≡ false
closed_by true n o h k = h
closed_by false n o h k = k

file_step : (f : Gives) (s : List ℕ → List KeptFile) (m : List ℕ) (n : Node) (t : Tree)
    → can_list (Some n) ≡ false → Ends f → Closed f (record { names = m ∷ []; node = n } ∷ t)
    → Grouped s t
    → entries_give (group f (record { names = m ∷ []; node = n } ∷ t)) s t ≡ all_give f s t
file_step f s m n t none ends closed ih =
    all_same (group f (record { names = m ∷ []; node = n } ∷ t)) (group f t) s t (λ k. skip_end f m n t k ends)
    ∙ ih f ends (λ k h. closed k (closed_by (is_eq (names_cmp (m ∷ []) (k ∷ []))) n (node_at t (k ∷ [])) none h))

without_ends : (f : Gives) (m k : List ℕ) (n : Node) (b : Bool) → Ends f → cond b [] (f k [] n) ≡ []
without_ends f m k n true ends = refl
without_ends f m k n false ends = ends k n

without_closed : (f : Gives) (m : List ℕ) (n : Node) (t : Tree) (k : List ℕ) (ms : Names) (x : Node)
    (b : Bool)
    → is_eq (name_cmp k m) ≡ b → can_list (node_at t (k ∷ [])) ≡ false
    → Closed f (record { names = m ∷ []; node = n } ∷ t) → cond b [] (f k ms x) ≡ []
without_closed f m n t k ms x true is h closed = refl
without_closed f m n t k ms x false is h closed =
    let other : is_eq (names_cmp (m ∷ []) (k ∷ [])) ≡ false = first_unequal (name_cmp m k) Equal (other_back k m is) in
    closed k (ap (λ (b : Bool). can_list (cond b (Some n) (node_at t (k ∷ [])))) other ∙ h) ms x

same_without : (f : Gives) (m k : List ℕ) (b : Bool) (t : Tree) → b ≡ false → flat_map (λ (e : PlacedNode). f k e.names e.node) t ≡ flat_map (λ (e : PlacedNode). cond b [] (f k e.names e.node)) t
same_without f m k true t e = absurd (cc)
same_without f m k false t e = refl

folder_step : (f : Gives) (s : List ℕ → List KeptFile) (m : List ℕ) (n : Node) (t : Tree)
    → is_first (m ∷ []) t ≡ true → is_in_order t ≡ true → Ends f
    → Closed f (record { names = m ∷ []; node = n } ∷ t) → Grouped s t
    → group f (record { names = m ∷ []; node = n } ∷ t) m ++ entries_give (group f (record { names = m ∷ []; node = n } ∷ t)) s t ≡ all_give f s t
folder_step f s m n t first order ends closed ih =
    let rest : entries_give (group f (record { names = m ∷ []; node = n } ∷ t)) s t ≡ entries_give (group (without f m) t) s t =
    all_same (group f (record { names = m ∷ []; node = n } ∷ t)) (group f t) s t (λ k. skip_end f m n t k ends)
    ∙ entries_same (λ k. is_eq (name_cmp k m) ≡ false) (group f t) (group (without f m) t) s t (named_other m t first) (λ k e. same_without f m k (is_eq (name_cmp k m)) (inside (k ∷ []) t) e) in
    let all : entries_give (group (without f m) t) s t ≡ all_give (without f m) s t =
    ih (without f m) (λ k x. without_ends f m k x (is_eq (name_cmp k m)) ends) (λ k h ms x. without_closed f m n t k ms x (is_eq (name_cmp k m)) refl h closed) in
    ap₂ (λ (x y : List KeptFile). x ++ y) (skip_end f m n t m ends) (rest ∙ all) ∙ sym (split_group f s m t first order)

deep_unequal : (o : Ordering) → is_eq (ordering_then o Greater) ≡ false
deep_unequal Less = refl
deep_unequal Equal = refl
deep_unequal Greater = refl

deep_step : (f : Gives) (s : List ℕ → List KeptFile) (m l : List ℕ) (ms : Names) (n : Node)
    (t : Tree)
    → is_first (m ∷ l ∷ ms) t ≡ true → Closed f (record { names = m ∷ l ∷ ms; node = n } ∷ t)
    → Ends f → Grouped s t
    → entries_give (group f (record { names = m ∷ l ∷ ms; node = n } ∷ t)) s t ≡ f m (l ∷ ms) n ++ all_give f s t
deep_step f s m l ms n t first closed ends ih =
    let here : (k : List ℕ) → is_eq (names_cmp (m ∷ l ∷ ms) (k ∷ [])) ≡ false = λ k. deep_unequal (name_cmp m k) in
    let before : is_before (m ∷ []) (m ∷ l ∷ ms) ≡ true = ap (λ (o : Ordering). is_lt (ordering_then o Less)) (itself m) in
    let missing : node_at t (m ∷ []) ≡ None = absent (m ∷ []) t (first_trans (m ∷ []) (m ∷ l ∷ ms) t before first) in
    let none : f m (l ∷ ms) n ≡ [] = closed m (ap₂ (λ (b : Bool) (o : Option Node). can_list (cond b (Some n) o)) (here m) missing) (l ∷ ms) n in
    all_same (group f (record { names = m ∷ l ∷ ms; node = n } ∷ t)) (group f t) s t (λ k. skip_deep f m l ms n t k none)
    ∙ ih f ends (λ k h. closed k (ap (λ (b : Bool). can_list (cond b (Some n) (node_at t (k ∷ [])))) (here k) ∙ h)) ∙ ap (λ (x : List KeptFile). x ++ all_give f s t) (sym none)

step : (s : List ℕ → List KeptFile) (ns : Names) (n : Node) (t : Tree) → is_first ns t ≡ true → is_in_order t ≡ true → Grouped s t → Grouped s (record { names = ns; node = n } ∷ t)
step s [] n t first order ih f ends closed = ih f ends closed
step s (m ∷ []) (file a b c) t first order ih f ends closed = ap (λ (x : List KeptFile). s m ++ x) (file_step f s m (file a b c) t refl ends closed ih)
step s (m ∷ []) (folder a) t first order ih f ends closed = folder_step f s m (folder a) t first order ends closed ih
step s (m ∷ l ∷ ms) n t first order ih f ends closed = deep_step f s m l ms n t first closed ends ih

pub grouped : (s : List ℕ → List KeptFile) (t : Tree) → is_in_order t ≡ true → Grouped s t
grouped s [] h = λ f ends closed. refl
grouped s (e ∷ t) h =
    step s e.names e.node t (left_of_and (is_first e.names t) (is_in_order t) h)
    (right_of_and (is_first e.names t) (is_in_order t) h)
    (grouped s t (right_of_and (is_first e.names t) (is_in_order t) h))
