-- A descent through a sound tree gives the files that a filter of all its places keeps, in their order.
use Rattle.std.proofs.Common.{◌≡◌, ℕ, zero, suc, List, [], ◌∷◌, ◌++◌, Bool, true, false, cond, Ok, Err, refl, sym, ap, ap₂, ◌∙◌}
use Rattle.std.specs.List.{flat_map, list_all}
use Rattle.tokei_folders.specs.declared.fs.Kind.TheVariants.{File, Folder}
use Rattle.tokei_folders.specs.declared.fs.Entry.{Entry}
use Rattle.tokei_folders.specs.declared.fs.Fault.TheVariants.{Refused}
use Rattle.tokei_walk.specs.declared.kept_file.KeptFile.{KeptFile}
use Rattle.tokei_walk.specs.declared.levels.Context.{Context}
use Rattle.tokei_walk.specs.declared.levels.Rules.{Rules}
use Rattle.tokei_folders.specs.declared.nodes.Node.{Node}
use Rattle.tokei_folders.specs.declared.nodes.Node.TheVariants.{File as file, Folder as folder}
use Rattle.tokei_folders.specs.declared.nodes.PlacedNode.{PlacedNode}
use Rattle.tokei_ignore.specs.declared.patterns.Pattern.{Pattern}
use Rattle.tokei_folders.specs.Answers.{can_list, list_answer, entries_in}
use Rattle.tokei_folders.specs.Places.{joined}
use Rattle.tokei_walk.specs.Descent.{kept, with_level, of_entry, of_entries, of_listing, descend}
use Rattle.tokei_walk.specs.Levels.{level_at, drops, under}
use Rattle.tokei_folders.specs.Tree.{Names, Tree, node_at, names_of, is_sound, is_in_order, has_names, is_whole_name}
use Rattle.tokei_walk.proofs.Groups.{Gives, place_gives, all_give, entry_gives, entries_give, group, Ends, Closed, entries_same, named_whole, grouped}
use Rattle.tokei_walk.proofs.Inside.{inside, inside_order, inside_names, inside_further, node_inside, entries_inside}
use Rattle.tokei_folders.proofs.Joining.{names_of-joined}
use Rattle.tokei_folders.proofs.NameOrder.{left_of_and, right_of_and}
use Rattle.tokei_folders.proofs.WholeNames.{one_name}

-- the step of a walk down to a place: what its next name gives, in a folder whose rules the context has
abbrev below_entry : List Pattern → Rules → (Context → List ℕ → Names → Names → Node → List KeptFile) → Context → List ℕ → Names → Gives
below_entry excludes rules rest d place q m ms n = cond (drops excludes rules d m true) [] (rest (under d m) (joined place m) (q ++ m ∷ []) ms n)

abbrev of_file : List Pattern → Rules → Context → List ℕ → List ℕ → List KeptFile
of_file excludes rules d place m = cond (drops excludes rules d m false) [] (kept (joined place m))

-- what a place gives, where one walks down its names
unfoldable pub walked_down : List Pattern → Rules → Tree → ℕ → Context → List ℕ → Names → Names → Node → List KeptFile
walked_down excludes rules t zero c place q ms n = []
walked_down excludes rules t (suc k) c place q ms n =
    cond (can_list (node_at t q))
    (place_gives
    (below_entry excludes rules (walked_down excludes rules t k)
    (with_level c (level_at t rules q)) place q)
    (of_file excludes rules (with_level c (level_at t rules q)) place) ms n)
    []

abbrev pub nothing : List KeptFile
nothing = []

pub none_by : (b : Bool) → cond b nothing nothing ≡ nothing
none_by true = refl
none_by false = refl

pub walked_end : (xs : List Pattern) (r : Rules) (t : Tree) (k : ℕ) (c : Context) (place : List ℕ) (q : Names) (n : Node) → walked_down xs r t k c place q [] n ≡ []
unfolding walked_down
walked_end xs r t zero c place q n = refl
walked_end xs r t (suc k) c place q n = none_by (can_list (node_at t q))

walked_shut : (xs : List Pattern) (r : Rules) (t : Tree) (k : ℕ) (c : Context) (place : List ℕ) (q ms : Names) (n : Node) → can_list (node_at t q) ≡ false → walked_down xs r t k c place q ms n ≡ []
unfolding walked_down
walked_shut xs r t zero c place q ms n h = refl
walked_shut xs r t (suc k) c place q ms n h =
    ap
    (λ (b : Bool). cond b
    (place_gives
    (below_entry xs r (walked_down xs r t k) (with_level c (level_at t r q)) place q)
    (of_file xs r (with_level c (level_at t r q)) place) ms n)
    [])
    h

-- the entries of a part, as a folder lists them
listed_place : (g : Entry → List KeptFile) (ns : Names) (n : Node) (t : Tree)
    → flat_map g (entries_in [] (record { names = ns; node = n } ∷ t))
    ≡ entry_gives (λ m. g (record { name = m; kind = Folder }))
    (λ m. g (record { name = m; kind = File })) ns n
    ++ flat_map g (entries_in [] t)
listed_place g [] n t = refl
listed_place g (m ∷ []) (file a b c) t = refl
listed_place g (m ∷ []) (folder a) t = refl
listed_place g (m ∷ l ∷ ms) n t = refl

listed : (g : Entry → List KeptFile) (t : Tree) → flat_map g (entries_in [] t) ≡ entries_give (λ m. g (record { name = m; kind = Folder })) (λ m. g (record { name = m; kind = File })) t
listed g [] = refl
listed g (e ∷ t) =
    listed_place g e.names e.node t
    ∙ ap
    (λ (x : List KeptFile). entry_gives (λ m. g (record { name = m; kind = Folder }))
    (λ m. g (record { name = m; kind = File })) e.names e.node
    ++ x)
    (listed g t)

none_give : (b : Bool) (f : PlacedNode → List KeptFile) (t : Tree) → b ≡ true → flat_map (λ (e : PlacedNode). cond b [] (f e)) t ≡ []
none_give true f [] h = refl
none_give true f (e ∷ t) h = none_give true f t h
none_give false f t h = absurd (cc)

outside_cond : (b : Bool) (f : PlacedNode → List KeptFile) (t : Tree) → flat_map (λ (e : PlacedNode). cond b [] (f e)) t ≡ cond b [] (flat_map f t)
outside_cond true f t = none_give true f t refl
outside_cond false f t = refl

none_map : (b : Bool) (f : PlacedNode → List KeptFile) (t : Tree) → b ≡ false → flat_map (λ (e : PlacedNode). cond b (f e) []) t ≡ []
none_map true f t h = absurd (cc)
none_map false f [] h = refl
none_map false f (e ∷ t) h = none_map false f t h

-- what a folder gives by the descent, and by all the places below it
abbrev Descends : List Pattern → Rules → Tree → ℕ → Type 0
Descends xs r t k =
    (c : Context) (place : List ℕ) (q : Names) → names_of place ≡ q
    → descend xs r t k c place
    ≡ flat_map (λ (e : PlacedNode). walked_down xs r t k c place q e.names e.node) (inside q t)

child_gives : (xs : List Pattern) (r : Rules) (t : Tree) (k : ℕ) (d : Context) (place : List ℕ) (q : Names) (m : List ℕ) → Descends xs r t k → names_of place ≡ q → is_whole_name m ≡ true
    → cond (drops xs r d m true) [] (descend xs r t k (under d m) (joined place m)) ≡ group (below_entry xs r (walked_down xs r t k) d place q) (inside q t) m
child_gives xs r t k d place q m ih at whole =
    let names : names_of (joined place m) ≡ q ++ m ∷ [] = names_of-joined place m ∙ ap₂ (λ (x y : Names). x ++ y) at (one_name m whole) in
    let walks : Names → Node → List KeptFile = walked_down xs r t k (under d m) (joined place m) (q ++ m ∷ []) in
    ap (cond (drops xs r d m true) nothing) (ih (under d m) (joined place m) (q ++ m ∷ []) names ∙ ap (flat_map (λ (e : PlacedNode). walks e.names e.node)) (inside_further q (m ∷ []) t))
    ∙ sym (outside_cond (drops xs r d m true) (λ (e : PlacedNode). walks e.names e.node) (inside (m ∷ []) (inside q t)))

ends : (xs : List Pattern) (r : Rules) (t : Tree) (k : ℕ) (d : Context) (place : List ℕ) (q : Names) → Ends (below_entry xs r (walked_down xs r t k) d place q)
ends xs r t k d place q m n = ap (cond (drops xs r d m true) nothing) (walked_end xs r t k (under d m) (joined place m) (q ++ m ∷ []) n) ∙ none_by (drops xs r d m true)

closed : (xs : List Pattern) (r : Rules) (t : Tree) (k : ℕ) (d : Context) (place : List ℕ) (q : Names) → Closed (below_entry xs r (walked_down xs r t k) d place q) (inside q t)
closed xs r t k d place q m h ms n =
    let shut : can_list (node_at t (q ++ m ∷ [])) ≡ false = ap can_list (sym (node_inside q (m ∷ []) t)) ∙ h in
    ap (cond (drops xs r d m true) nothing) (walked_shut xs r t k (under d m) (joined place m) (q ++ m ∷ []) ms n shut) ∙ none_by (drops xs r d m true)

-- the entries of a folder that can be listed
entries_walked : (xs : List Pattern) (r : Rules) (t : Tree) (k : ℕ) (d : Context) (place : List ℕ) (q : Names) → is_sound t ≡ true → Descends xs r t k → names_of place ≡ q
    → flat_map (of_entry xs r (descend xs r t k) d place) (entries_in q t) ≡ all_give (below_entry xs r (walked_down xs r t k) d place q) (of_file xs r d place) (inside q t)
unfolding of_entry is_sound
entries_walked xs r t k d place q sound ih at =
    let f : Gives = below_entry xs r (walked_down xs r t k) d place q in
    let x : List ℕ → List KeptFile = λ m. cond (drops xs r d m true) [] (descend xs r t k (under d m) (joined place m)) in
    let whole : list_all has_names (inside q t) ≡ true = inside_names q t (right_of_and (is_in_order t) (list_all has_names t) sound) in
    let order : is_in_order (inside q t) ≡ true = inside_order q t (left_of_and (is_in_order t) (list_all has_names t) sound) in
    ap (flat_map (of_entry xs r (descend xs r t k) d place)) (entries_inside q t) ∙ listed (of_entry xs r (descend xs r t k) d place) (inside q t)
    ∙ entries_same (λ m. is_whole_name m ≡ true) x (group f (inside q t)) (of_file xs r d place) (inside q t) (named_whole (inside q t) whole) (λ m w. child_gives xs r t k d place q m ih at w)
    ∙ grouped (of_file xs r d place) (inside q t) order f (ends xs r t k d place q) (closed xs r t k d place q)

listing_by : (xs : List Pattern) (r : Rules) (t : Tree) (k : ℕ) (c : Context) (place : List ℕ)
    (q : Names) (b : Bool)
    → can_list (node_at t q) ≡ b → is_sound t ≡ true → Descends xs r t k → names_of place ≡ q
    → of_listing (λ d at es. of_entries xs r (descend xs r t k) (with_level d (level_at t r (names_of at))) at es) c place (cond b (Ok (entries_in q t)) (Err Refused))
    ≡ flat_map
    (λ (e : PlacedNode). cond b
    (place_gives
    (below_entry xs r (walked_down xs r t k) (with_level c (level_at t r q)) place q)
    (of_file xs r (with_level c (level_at t r q)) place) e.names e.node)
    [])
    (inside q t)
unfolding of_entries
listing_by xs r t k c place q true is sound ih at =
    ap (λ (p : Names). flat_map (of_entry xs r (descend xs r t k) (with_level c (level_at t r p)) place) (entries_in q t)) at
    ∙ entries_walked xs r t k (with_level c (level_at t r q)) place q sound ih at
listing_by xs r t k c place q false is sound ih at =
    sym (none_map false
    (λ (e : PlacedNode). place_gives
    (below_entry xs r (walked_down xs r t k) (with_level c (level_at t r q)) place q)
    (of_file xs r (with_level c (level_at t r q)) place) e.names e.node)
    (inside q t) refl)

empty_map : (t : Tree) → [] ≡ flat_map (λ (e : PlacedNode). nothing) t
empty_map [] = refl
empty_map (e ∷ t) = empty_map t

-- a folder gives what all the places below it give
pub descends : (xs : List Pattern) (r : Rules) (t : Tree) (k : ℕ) → is_sound t ≡ true → Descends xs r t k
unfolding descend walked_down list_answer
descends xs r t zero sound c place q at = empty_map (inside q t)
descends xs r t (suc k) sound c place q at =
    ap
    (λ (p : Names). of_listing
    (λ d place es. of_entries xs r (descend xs r t k)
    (with_level d (level_at t r (names_of place))) place es)
    c place (cond (can_list (node_at t p)) (Ok (entries_in p t)) (Err Refused)))
    at
    ∙ listing_by xs r t k c place q (can_list (node_at t q)) refl sound (descends xs r t k sound) at
