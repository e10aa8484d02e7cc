-- The places of kept files are files of the tree.
use Rattle.std.proofs.Common.{◌≡◌, ℕ, ◌&&◌, List, [], ◌∷◌, ◌++◌, Bool, true, false, not, cond, filter, map, Option, Some, None, refl, sym, ap, ap₂, ◌∙◌, append_assoc, append-nil}
use Rattle.std.specs.List.{flat_map, list_all}
use Rattle.std.specs.Ordering.{is_eq}
use Rattle.std.proofs.lemmas.Cmp.{tied_itself}
use Rattle.std.proofs.lemmas.List.Folds.{list_all-append}
use Rattle.tokei_folders.specs.declared.nodes.Node.{Node}
use Rattle.tokei_folders.specs.declared.nodes.Node.TheVariants.{File as file, Folder as folder}
use Rattle.tokei_folders.specs.declared.nodes.PlacedNode.{PlacedNode}
use Rattle.tokei_folders.specs.Places.{joined}
use Rattle.tokei_folders.specs.Tree.{Names, Tree, names_cmp, is_first, is_in_order, is_before, is_sound, is_whole_name, has_names, node_at, is_file, names_of, below}
use Rattle.tokei_folders.proofs.Joining.{names_of-joined}
use Rattle.tokei_folders.proofs.NameOrder.{left_of_and, right_of_and, both, is_less, names_total}
use Rattle.tokei_folders.proofs.WholeNames.{one_name}
use Rattle.tokei_ignore.specs.declared.patterns.Pattern.{Pattern}
use Rattle.tokei_ignore.specs.Fits.{is_empty}
use Rattle.tokei_walk.specs.declared.kept_file.KeptFile.{KeptFile}
use Rattle.tokei_walk.specs.declared.levels.Rules.{Rules}
use Rattle.tokei_walk.specs.Kept.{is_kept, is_kept_below, names_below, names_from, place_below, kept_file, kept_below, kept_at, kept_of, kept_in, file_at}
use Rattle.tokei_walk.specs.WalkLaws.{is_file_of}
use Rattle.tokei_walk.proofs.Inside.{name_cmp, opened, same_name, whole_below}

-- what stands below a folder has the folder's names in front
below_is : (q ns r : Names) → below q ns ≡ Some r → ns ≡ q ++ r
below_is [] ns r e = cc
below_is (d ∷ ds) [] r e = absurd (cc)
below_is (d ∷ ds) (n ∷ ns) r e =
    let x = opened (is_eq (name_cmp d n)) (below ds ns) r e in ap₂ (λ (y : List ℕ) (z : Names). y ∷ z) (sym (same_name d n x.holds)) (below_is ds ns r x.is)

-- the places of a part stand in the tree as they are
abbrev Stands : Tree → Tree → Type 0
Stands t [] = Unit {0}
Stands t (e ∷ u) = (node_at t e.names ≡ Some e.node) × Stands t u

stands_here : (e : PlacedNode) (t : Tree) → node_at (e ∷ t) e.names ≡ Some e.node
stands_here e t = ap (λ o. cond (is_eq o) (Some e.node) (node_at t e.names)) (tied_itself names_total e.names)

stands_later : (d e : PlacedNode) (t : Tree) → is_before d.names e.names ≡ true → node_at t e.names ≡ Some e.node → node_at (d ∷ t) e.names ≡ Some e.node
stands_later d e t h s = ap (λ o. cond (is_eq o) (Some d.node) (node_at t e.names)) (is_less (names_cmp d.names e.names) h) ∙ s

stands_more : (d : PlacedNode) (t u : Tree) → is_first d.names u ≡ true → Stands t u → Stands (d ∷ t) u
stands_more d t [] h s = tt
stands_more d t (e ∷ u) h s =
    (stands_later d e t (left_of_and (is_before d.names e.names) (is_first d.names u) h) s.0, stands_more d t u (right_of_and (is_before d.names e.names) (is_first d.names u) h) s.1)

stands_all : (t : Tree) → is_in_order t ≡ true → Stands t t
stands_all [] h = tt
stands_all (e ∷ t) h = (stands_here e t, stands_more e t t (left_of_and (is_first e.names t) (is_in_order t) h) (stands_all t (right_of_and (is_first e.names t) (is_in_order t) h)))

-- the names of the place to which names lead
names_of-place_below : (root : List ℕ) (ns : Names) → list_all is_whole_name ns ≡ true → names_of (place_below root ns) ≡ names_of root ++ ns
unfolding place_below
names_of-place_below root [] h = sym (append-nil (names_of root))
names_of-place_below root (n ∷ ns) h =
    names_of-place_below (joined root n) ns (right_of_and (is_whole_name n) (list_all is_whole_name ns) h)
    ∙ ap (λ (q : Names). q ++ ns) (names_of-joined root n ∙ ap (λ (q : Names). names_of root ++ q) (one_name n (left_of_and (is_whole_name n) (list_all is_whole_name ns) h)))
    ∙ append_assoc (names_of root) (n ∷ []) ns

kept_stands_by : (t : Tree) (root : List ℕ) (e : PlacedNode) (o : Option Names) (more : Bool) → below (names_of root) e.names ≡ o → has_names e ≡ true → node_at t e.names ≡ Some e.node
    → (not (is_empty (names_from o)) && (is_file (Some e.node) && more)) ≡ true → is_file (node_at t (names_of (place_below root (names_from o)))) ≡ true
kept_stands_by t root e None more is h s k = absurd (cc)
kept_stands_by t root e (Some ns) more is h s k =
    let at : names_of (place_below root ns) ≡ e.names = names_of-place_below root ns (whole_below (names_of root) e.names ns is h) ∙ sym (below_is (names_of root) e.names ns is) in
    ap (λ (q : Names). is_file (node_at t q)) at ∙ ap is_file s ∙ left_of_and (is_file (Some e.node)) more (right_of_and (not (is_empty ns)) (is_file (Some e.node) && more) k)

-- a place that is kept is a file of the tree
kept_stands : (xs : List Pattern) (r : Rules) (t : Tree) (root : List ℕ) (e : PlacedNode)
    → has_names e ≡ true → node_at t e.names ≡ Some e.node → is_kept xs r t (names_of root) e ≡ true
    → is_file_of t (kept_file root e) ≡ true
unfolding is_kept
kept_stands xs r t root e h s k = kept_stands_by t root e (below (names_of root) e.names) (is_kept_below xs r t (names_of root) (names_below (names_of root) e)) refl h s k

all_kept_by : (t : Tree) (root : List ℕ) (e : PlacedNode) (rest : Tree) (b : Bool) → (b ≡ true → is_file_of t (kept_file root e) ≡ true) → list_all (is_file_of t) (map (kept_file root) rest) ≡ true
    → list_all (is_file_of t) (map (kept_file root) (cond b (e ∷ rest) rest)) ≡ true
all_kept_by t root e rest true h k = both (is_file_of t (kept_file root e)) (list_all (is_file_of t) (map (kept_file root) rest)) (h refl) k
all_kept_by t root e rest false h k = k

all_kept : (xs : List Pattern) (r : Rules) (t : Tree) (root : List ℕ) (u : Tree) → Stands t u → list_all has_names u ≡ true
    → list_all (is_file_of t) (map (kept_file root) (filter (is_kept xs r t (names_of root)) u)) ≡ true
all_kept xs r t root [] s h = refl
all_kept xs r t root (e ∷ u) s h =
    all_kept_by t root e (filter (is_kept xs r t (names_of root)) u) (is_kept xs r t (names_of root) e) (kept_stands xs r t root e (left_of_and (has_names e) (list_all has_names u) h) s.0)
    (all_kept xs r t root u s.1 (right_of_and (has_names e) (list_all has_names u) h))

at_root : (xs : List Pattern) (r : Rules) (t : Tree) (root : List ℕ) (o : Option Node) → node_at t (names_of root) ≡ o → is_in_order t ≡ true → list_all has_names t ≡ true
    → list_all (is_file_of t) (kept_at xs r t root o) ≡ true
unfolding kept_below
at_root xs r t root None is h k = refl
at_root xs r t root (Some (file b c content)) is h k = both (is_file_of t (file_at root)) true (ap is_file is) refl
at_root xs r t root (Some (folder b)) is h k = all_kept xs r t root t (stands_all t h) k

of_root_by : (t : Tree) (b : Bool) (fs : List KeptFile) → list_all (is_file_of t) fs ≡ true → list_all (is_file_of t) (cond b [] fs) ≡ true
of_root_by t true fs h = refl
of_root_by t false fs h = h

of_one_root : (xs : List Pattern) (r : Rules) (t : Tree) (root : List ℕ) → is_sound t ≡ true → list_all (is_file_of t) (kept_of xs r t root) ≡ true
unfolding kept_of is_sound
of_one_root xs r t root h =
    of_root_by t (is_empty root) (kept_at xs r t root (node_at t (names_of root)))
    (at_root xs r t root (node_at t (names_of root)) refl
    (left_of_and (is_in_order t) (list_all has_names t) h)
    (right_of_and (is_in_order t) (list_all has_names t) h))

-- each kept file is a file of the tree
pub kept_are_files : (xs : List Pattern) (r : Rules) (t : Tree) (roots : List (List ℕ)) → is_sound t ≡ true → list_all (is_file_of t) (kept_in xs r t roots) ≡ true
unfolding kept_in
kept_are_files xs r t [] h = refl
kept_are_files xs r t (root ∷ roots) h =
    list_all-append (is_file_of t) (kept_of xs r t root) (flat_map (kept_of xs r t) roots)
    ∙ both (list_all (is_file_of t) (kept_of xs r t root))
    (list_all (is_file_of t) (flat_map (kept_of xs r t) roots)) (of_one_root xs r t root h)
    (kept_are_files xs r t roots h)
