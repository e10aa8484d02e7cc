-- What decides about a place, gathered on the way down to it, is what decides by its own chain of folders.
use Rattle.std.proofs.Common.{◌≡◌, ℕ, zero, suc, ◌&&◌, List, [], ◌∷◌, ◌++◌, Bool, true, false, not, nat_le, cond, map, filter, length, Option, Some, None, refl, sym, ap, ap₂, ◌∙◌, append_assoc, append-nil, arith}
use Rattle.std.specs.List.{flat_map, list_all}
use Rattle.std.proofs.lemmas.Bool.Decides.{nat_tests}
use Rattle.std.proofs.lemmas.List.{map-append}
use Rattle.tokei_walk.specs.declared.kept_file.KeptFile.{KeptFile}
use Rattle.tokei_walk.specs.declared.levels.Context.{Context}
use Rattle.tokei_walk.specs.declared.levels.Rules.{Rules}
use Rattle.tokei_folders.specs.declared.nodes.Node.{Node}
use Rattle.tokei_folders.specs.declared.nodes.Node.TheVariants.{File as file, Folder as folder}
use Rattle.tokei_folders.specs.declared.nodes.PlacedNode.{PlacedNode}
use Rattle.tokei_ignore.specs.declared.patterns.Pattern.{Pattern}
use Rattle.tokei_folders.specs.Answers.{can_list}
use Rattle.tokei_folders.specs.Places.{joined}
use Rattle.tokei_walk.specs.Descent.{with_level, descend, root_context, levels_above, of_root, of_node}
use Rattle.tokei_ignore.specs.Fits.{is_empty}
use Rattle.tokei_walk.specs.Kept.{context_at, last_name, is_dropped, between, is_entered, is_kept_below, names_from, names_below, is_kept, place_below, file_at, kept_file, kept_below, kept_at, kept_of, kept_in}
use Rattle.tokei_walk.specs.Levels.{level_at, drops, drops_last, under}
use Rattle.tokei_folders.specs.Tree.{Names, Tree, node_at, is_file, names_of, folders_above, below, is_sound}
use Rattle.tokei_walk.specs.Walks.{descended}
use Rattle.tokei_walk.proofs.Filtering.{walked_down, walked_end, nothing, none_by, descends}
use Rattle.tokei_walk.proofs.Inside.{inside, put_below}
use Rattle.tokei_walk.proofs.StackSteps.{same_context}

above_push : (top ns : Names) (m : List ℕ) → folders_above top (ns ++ m ∷ []) ≡ folders_above top ns ++ (top ++ ns, m) ∷ []
above_push top [] m = ap (λ (x : Names). (x, m) ∷ []) (sym (append-nil top))
above_push top (n ∷ ns) m =
    ap (λ (x : List (Names × List ℕ)). (top, n) ∷ x) (above_push (top ++ n ∷ []) ns m) ∙ ap (λ (x : Names). (top, n) ∷ (folders_above (top ++ n ∷ []) ns ++ (x, m) ∷ [])) (append_assoc top (n ∷ []) ns)

-- the context of a folder's entries, where the folders above the root count or don't
abbrev context_by : Bool → Tree → Rules → Names → Names → Context
context_by b t r p ds = record { levels = map (λ a. level_at t r a.0) (cond b (folders_above [] (p ++ ds)) (folders_above p ds)); names = cond b (p ++ ds) ds; shown = p ++ ds }

levels_push : (t : Tree) (r : Rules) (above more : List (Names × List ℕ)) (q : Names) (m : List ℕ)
    → more ≡ above ++ (q, m) ∷ []
    → map (λ (a : Names × List ℕ). level_at t r a.0) above ++ level_at t r q ∷ []
    ≡ map (λ (a : Names × List ℕ). level_at t r a.0) more
levels_push t r above more q m e = sym (ap (map (λ (a : Names × List ℕ). level_at t r a.0)) e ∙ map-append (λ (a : Names × List ℕ). level_at t r a.0) above ((q, m) ∷ []))

context_push : (b : Bool) (t : Tree) (r : Rules) (p ds : Names) (m : List ℕ) → under (with_level (context_by b t r p ds) (level_at t r (p ++ ds))) m ≡ context_by b t r p (ds ++ m ∷ [])
context_push true t r p ds m =
    let longer : (p ++ ds) ++ m ∷ [] ≡ p ++ (ds ++ m ∷ []) = append_assoc p ds (m ∷ []) in
    same_context (levels_push t r (folders_above [] (p ++ ds)) (folders_above [] (p ++ (ds ++ m ∷ []))) (p ++ ds) m (ap (folders_above []) (sym longer) ∙ above_push [] (p ++ ds) m)) longer longer
context_push false t r p ds m = same_context (levels_push t r (folders_above p ds) (folders_above p (ds ++ m ∷ [])) (p ++ ds) m (above_push p ds m)) refl (append_assoc p ds (m ∷ []))

context_down : (t : Tree) (r : Rules) (p ds : Names) (m : List ℕ) → under (with_level (context_at t r p ds) (level_at t r (p ++ ds))) m ≡ context_at t r p (ds ++ m ∷ [])
unfolding context_at
context_down t r p ds m = context_push r.parents t r p ds m

last_push : (ds : Names) (m : List ℕ) → last_name (ds ++ m ∷ []) ≡ m
last_push [] m = refl
last_push (d ∷ []) m = refl
last_push (d ∷ e ∷ ds) m = last_push (e ∷ ds) m

-- an entry of a folder is dropped by its own chain
drops_down : (xs : List Pattern) (r : Rules) (t : Tree) (p ds : Names) (m : List ℕ) (b : Bool)
    → drops xs r (with_level (context_at t r p ds) (level_at t r (p ++ ds))) m b
    ≡ is_dropped xs r t p (ds ++ m ∷ []) b
unfolding is_dropped
drops_down xs r t p ds m b = ap₂ (λ (c : Context) (n : List ℕ). drops_last xs r c n b) (context_down t r p ds m) (sym (last_push ds m))

pub place_push : (root : List ℕ) (ds : Names) (m : List ℕ) → place_below root (ds ++ m ∷ []) ≡ joined (place_below root ds) m
unfolding place_below
place_push root [] m = refl
place_push root (d ∷ ds) m = place_push (joined root d) ds m

-- at most so many names
abbrev within : Names → ℕ → Bool
within [] k = true
within (m ∷ ms) zero = false
within (m ∷ ms) (suc k) = within ms k

-- all folders on the way are entered, and the place isn't dropped
abbrev way_open : List Pattern → Rules → Tree → Names → Names → Names → Bool
way_open xs r t p ds ms = can_list (node_at t (p ++ ds)) && (list_all (is_entered xs r t p) (between ds ms) && not (is_dropped xs r t p (ds ++ ms) false))

-- a place is kept, by the names from the root to its folder and those behind
abbrev passes : List Pattern → Rules → Tree → Names → ℕ → Names → Names → Node → Bool
passes xs r t p k ds ms n = is_file (Some n) && (within ms k && way_open xs r t p ds ms)

abbrev Down : List Pattern → Rules → Tree → List ℕ → Names → ℕ → Names → Names → Node → Type 0
Down xs r t root p k ds ms n = walked_down xs r t k (context_at t r p ds) (place_below root ds) (p ++ ds) ms n ≡ cond (passes xs r t p k ds ms n) (file_at (place_below root (ds ++ ms)) ∷ []) []

none_twice : (c d : Bool) → cond c (cond d nothing nothing) nothing ≡ nothing
none_twice true true = refl
none_twice true false = refl
none_twice false d = refl

never : (f : Bool) (rest : Bool) (x : List KeptFile) → nothing ≡ cond (f && (false && rest)) x nothing
never true rest x = refl
never false rest x = refl

deep_tests : (f w c d e a g : Bool) (x : List KeptFile)
    → cond c (cond d nothing (cond (f && (w && (e && (a && g)))) x nothing)) nothing
    ≡ cond (f && (w && (c && (((e && not d) && a) && g)))) x nothing
deep_tests false w c d e a g x = none_twice c d
deep_tests true false c d e a g x = none_twice c d
deep_tests true true false d e a g x = refl
deep_tests true true true true true a g x = refl
deep_tests true true true true false a g x = refl
deep_tests true true true false true a g x = refl
deep_tests true true true false false a g x = refl

file_tests : (c d : Bool) (x : List KeptFile) → cond c (cond d nothing x) nothing ≡ cond (c && (true && not d)) x nothing
file_tests true true x = refl
file_tests true false x = refl
file_tests false d x = refl

walked_file : (xs : List Pattern) (r : Rules) (t : Tree) (root : List ℕ) (p : Names) (k : ℕ) (ds : Names) (m : List ℕ) (n : Node) → Down xs r t root p k ds (m ∷ []) n
unfolding walked_down
walked_file xs r t root p zero ds m n = never (is_file (Some n)) (way_open xs r t p ds (m ∷ [])) (file_at (place_below root (ds ++ m ∷ [])) ∷ [])
walked_file xs r t root p (suc k) ds m (folder a) = none_by (can_list (node_at t (p ++ ds)))
walked_file xs r t root p (suc k) ds m (file a b content) =
    ap₂ (λ (d : Bool) (x : List ℕ). cond (can_list (node_at t (p ++ ds))) (cond d nothing (file_at x ∷ [])) nothing) (drops_down xs r t p ds m false) (sym (place_push root ds m))
    ∙ file_tests (can_list (node_at t (p ++ ds))) (is_dropped xs r t p (ds ++ m ∷ []) false) (file_at (place_below root (ds ++ m ∷ [])) ∷ [])

further : (ds : Names) (m : List ℕ) (ms : Names) → (ds ++ m ∷ []) ++ ms ≡ ds ++ m ∷ ms
further ds m ms = append_assoc ds (m ∷ []) ms

walked_deep : (xs : List Pattern) (r : Rules) (t : Tree) (root : List ℕ) (p : Names) (k : ℕ)
    (ds : Names) (m l : List ℕ) (ms : Names) (n : Node)
    → Down xs r t root p k (ds ++ m ∷ []) (l ∷ ms) n → Down xs r t root p (suc k) ds (m ∷ l ∷ ms) n
unfolding walked_down
walked_deep xs r t root p k ds m l ms n ih =
    let c = can_list (node_at t (p ++ ds)) in
    let e = can_list (node_at t (p ++ (ds ++ m ∷ []))) in
    let d = is_dropped xs r t p (ds ++ m ∷ []) true in
    let a = list_all (is_entered xs r t p) (between (ds ++ m ∷ []) (l ∷ ms)) in
    let rest : walked_down xs r t k (under (with_level (context_at t r p ds) (level_at t r (p ++ ds))) m) (joined (place_below root ds) m) ((p ++ ds) ++ m ∷ []) (l ∷ ms) n
    ≡ cond (is_file (Some n) && (within (l ∷ ms) k && (e && (a && not (is_dropped xs r t p (ds ++ m ∷ l ∷ ms) false))))) (file_at (place_below root (ds ++ m ∷ l ∷ ms)) ∷ []) nothing =
    ap₂ (λ (x : Context) (y : List ℕ). walked_down xs r t k x y ((p ++ ds) ++ m ∷ []) (l ∷ ms) n) (context_down t r p ds m) (sym (place_push root ds m))
    ∙ ap (λ (q : Names). walked_down xs r t k (context_at t r p (ds ++ m ∷ [])) (place_below root (ds ++ m ∷ [])) q (l ∷ ms) n) (append_assoc p ds (m ∷ []))
    ∙ ih ∙ ap (λ (q : Names). cond (is_file (Some n) && (within (l ∷ ms) k && (e && (a && not (is_dropped xs r t p q false))))) (file_at (place_below root q) ∷ []) nothing) (further ds m (l ∷ ms)) in
    ap₂ (λ (x : Bool) (y : List KeptFile). cond c (cond x nothing y) nothing) (drops_down xs r t p ds m true) rest
    ∙ deep_tests (is_file (Some n)) (within (l ∷ ms) k) c d e a (not (is_dropped xs r t p (ds ++ m ∷ l ∷ ms) false)) (file_at (place_below root (ds ++ m ∷ l ∷ ms)) ∷ [])

walked_passes : (xs : List Pattern) (r : Rules) (t : Tree) (root : List ℕ) (p : Names) (k : ℕ) (ds : Names) (m : List ℕ) (ms : Names) (n : Node) → Down xs r t root p k ds (m ∷ ms) n
unfolding walked_down
walked_passes xs r t root p k ds m [] n = walked_file xs r t root p k ds m n
walked_passes xs r t root p zero ds m (l ∷ ms) n = never (is_file (Some n)) (way_open xs r t p ds (m ∷ l ∷ ms)) (file_at (place_below root (ds ++ m ∷ l ∷ ms)) ∷ [])
walked_passes xs r t root p (suc k) ds m (l ∷ ms) n = walked_deep xs r t root p k ds m l ms n (walked_passes xs r t root p k (ds ++ m ∷ []) l ms n)

within_is : (ms : Names) (k : ℕ) → within ms k ≡ nat_le (length ms) k
within_is [] k = grind (arith, nat_tests)
within_is (m ∷ ms) zero = grind (arith, nat_tests)
within_is (m ∷ ms) (suc k) = within_is ms k ∙ grind (arith, nat_tests)

-- what a place below a root gives, as the filter has it
abbrev gate : List Pattern → Rules → Tree → List ℕ → Names → Names → Node → List KeptFile
gate xs r t root p ns n = cond (not (is_empty ns) && (is_file (Some n) && is_kept_below xs r t p ns)) (file_at (place_below root ns) ∷ []) []

gate_is : (xs : List Pattern) (r : Rules) (t : Tree) (root : List ℕ) (p ns : Names) (n : Node) → walked_down xs r t 257 (context_at t r p []) root p ns n ≡ gate xs r t root p ns n
unfolding is_kept_below place_below
gate_is xs r t root p [] n = walked_end xs r t 257 (context_at t r p []) root p n
gate_is xs r t root p (m ∷ ms) n =
    ap (λ (q : Names). walked_down xs r t 257 (context_at t r p []) root q (m ∷ ms) n) (sym (append-nil p)) ∙ walked_passes xs r t root p 257 [] m ms n
    ∙ ap₂
    (λ (b : Bool) (q : Names). cond
    (is_file (Some n)
    && (b
    && (can_list (node_at t q)
    && (list_all (is_entered xs r t p) (between [] (m ∷ ms))
    && not (is_dropped xs r t p (m ∷ ms) false)))))
    (file_at (place_below root (m ∷ ms)) ∷ []) [])
    (within_is (m ∷ ms) 257) (append-nil p)

-- the filter, place by place
one_kept : (root : List ℕ) (e : PlacedNode) (b : Bool) (rest : Tree) → cond b (kept_file root e ∷ []) [] ++ map (kept_file root) rest ≡ map (kept_file root) (cond b (e ∷ rest) rest)
one_kept root e true rest = refl
one_kept root e false rest = refl

gate_below : (xs : List Pattern) (r : Rules) (t : Tree) (root : List ℕ) (p : Names) (o : Option Names) (n : Node) (u : Tree)
    → flat_map (λ (e : PlacedNode). gate xs r t root p e.names e.node) (put_below o n u) ≡ gate xs r t root p (names_from o) n ++ flat_map (λ (e : PlacedNode). gate xs r t root p e.names e.node) u
gate_below xs r t root p None n u = refl
gate_below xs r t root p (Some ns) n u = refl

filtered : (xs : List Pattern) (r : Rules) (t : Tree) (root : List ℕ) (u : Tree)
    → flat_map (λ (e : PlacedNode). gate xs r t root (names_of root) e.names e.node)
    (inside (names_of root) u)
    ≡ map (kept_file root) (filter (is_kept xs r t (names_of root)) u)
unfolding is_kept
filtered xs r t root [] = refl
filtered xs r t root (e ∷ u) =
    gate_below xs r t root (names_of root) (below (names_of root) e.names) e.node (inside (names_of root) u)
    ∙ ap (λ (x : List KeptFile). gate xs r t root (names_of root) (names_below (names_of root) e) e.node ++ x) (filtered xs r t root u)
    ∙ one_kept root e (is_kept xs r t (names_of root) e) (filter (is_kept xs r t (names_of root)) u)

root_by : (b : Bool) (t : Tree) (r : Rules) (p : Names) → record { levels = cond b (map (λ a. level_at t r a.0) (folders_above [] p)) []; names = cond b p []; shown = p } ≡ context_by b t r p []
root_by true t r p = same_context (ap (λ (x : Names). map (λ (a : Names × List ℕ). level_at t r a.0) (folders_above [] x)) (sym (append-nil p))) (sym (append-nil p)) (sym (append-nil p))
root_by false t r p = same_context refl refl (sym (append-nil p))

root_is : (t : Tree) (r : Rules) (p : Names) → root_context t r p ≡ context_at t r p []
unfolding root_context levels_above context_at
root_is t r p = root_by r.parents t r p

each_gate : (xs : List Pattern) (r : Rules) (t : Tree) (root : List ℕ) (p : Names) (u : Tree)
    → flat_map (λ (e : PlacedNode). walked_down xs r t 257 (context_at t r p []) root p e.names e.node) u ≡ flat_map (λ (e : PlacedNode). gate xs r t root p e.names e.node) u
each_gate xs r t root p [] = refl
each_gate xs r t root p (e ∷ u) = ap₂ (λ (x y : List KeptFile). x ++ y) (gate_is xs r t root p e.names e.node) (each_gate xs r t root p u)

-- a root that is a folder
folder_kept : (xs : List Pattern) (r : Rules) (t : Tree) (root : List ℕ) → is_sound t ≡ true → descend xs r t 257 (root_context t r (names_of root)) root ≡ kept_below xs r t root
unfolding kept_below
folder_kept xs r t root sound =
    let p = names_of root in
    ap (λ (c : Context). descend xs r t 257 c root) (root_is t r p) ∙ descends xs r t 257 sound (context_at t r p []) root p refl ∙ each_gate xs r t root p (inside p t) ∙ filtered xs r t root t

node_kept : (xs : List Pattern) (r : Rules) (t : Tree) (root : List ℕ) (o : Option Node) → is_sound t ≡ true → of_node xs r t root o ≡ kept_at xs r t root o
node_kept xs r t root None sound = refl
node_kept xs r t root (Some (file a b c)) sound = refl
node_kept xs r t root (Some (folder a)) sound = folder_kept xs r t root sound

root_kept : (xs : List Pattern) (r : Rules) (t : Tree) (root : List ℕ) → is_sound t ≡ true → of_root xs r t root ≡ kept_of xs r t root
unfolding of_root kept_of
root_kept xs r t root sound = ap (λ (x : List KeptFile). cond (is_empty root) [] x) (node_kept xs r t root (node_at t (names_of root)) sound)

-- the descent through a sound tree gives what the filter keeps
pub descent_is_filter : (xs : List Pattern) (r : Rules) (t : Tree) (roots : List (List ℕ)) → is_sound t ≡ true → descended xs r t roots ≡ kept_in xs r t roots
unfolding descended kept_in
descent_is_filter xs r t [] sound = refl
descent_is_filter xs r t (root ∷ roots) sound = ap₂ (λ (x y : List KeptFile). x ++ y) (root_kept xs r t root sound) (descent_is_filter xs r t roots sound)
