-- The folders above a place, one after the other.
use Rattle.std.proofs.Common.{◌≡◌, ℕ, zero, suc, arith, ◌+◌, ◌<◌, ◌≤◌, ◌&&◌, ◌||◌, List, [], ◌∷◌, ◌++◌, length, get_or, take, drop, Bool, true, false, not, cond, map, filter, refl, sym, ap, ap₂, ◌∙◌, append_assoc, append-nil}
use Rattle.std.specs.List.{list_any, list_all, slice_split, onto_first}
use Rattle.std.proofs.lemmas.List.{drop_more, drop_all, take_more, map-append}
use Rattle.std.proofs.lemmas.List.Folds.{list_all-append}
use Rattle.tokei_folders.specs.declared.fs.Above.{Above}
use Rattle.tokei_folders.specs.declared.nodes.PlacedNode.{PlacedNode}
use Rattle.tokei_folders.specs.Answers.{above_view}
use Rattle.tokei_folders.specs.Places.{joined}
use Rattle.tokei_folders.specs.Tree.{Names, Tree, node_at, is_file, folders_above, names_of, is_name, is_slash, is_whole_name, has_names}
use Rattle.tokei_folders.proofs.Joining.{names_of-joined}
use Rattle.tokei_folders.proofs.NameOrder.{left_of_and, right_of_and, both}
use Rattle.tokei_folders.proofs.WholeNames.{clean, one_name}
use Rattle.tokei_memory.specs.Additions.{folders_to, new_folder, is_below_file}

-- those behind a front of the place
abbrev pub folders_at : Names → Names → List PlacedNode
folders_at top ns = map (λ a. new_folder a.0) (folders_above top ns)

abbrev pub file_among : Tree → Names → Names → Bool
file_among t top ns = list_any (λ a. is_file (node_at t a.0)) (folders_above top ns)

pub folders_begin : (p : Names) → folders_to p ≡ folders_at [] p
unfolding folders_to
folders_begin p = refl

pub file_begin : (t : Tree) (p : Names) → is_below_file t p ≡ file_among t [] p
unfolding is_below_file
file_begin t p = refl

above_step : (p : Names) (i : ℕ) (d : List ℕ) → i < length p → folders_above (take i p) (drop i p) ≡ (take i p, get_or p i d) ∷ folders_above (take (i + 1) p) (drop (i + 1) p)
above_step p i d h =
    ap (folders_above (take i p)) (drop_more p i d h) ∙ ap (λ (x : Names). (take i p, get_or p i d) ∷ folders_above x (drop (i + 1) p)) (sym (take_more p i d h))

pub folders_step : (p : Names) (i : ℕ) → i < length p → folders_at (take i p) (drop i p) ≡ new_folder (take i p) ∷ folders_at (take (i + 1) p) (drop (i + 1) p)
folders_step p i h = ap (map (λ (a : Names × List ℕ). new_folder a.0)) (above_step p i [] h)

-- one more of them
pub folders_more : (p : Names) (i : ℕ) (fs gs : List PlacedNode) (q : Names) → i < length p
    → q ≡ take i p → gs ≡ fs ++ new_folder q ∷ []
    → folders_to p ≡ fs ++ folders_at (take i p) (drop i p)
    → folders_to p ≡ gs ++ folders_at (take (i + 1) p) (drop (i + 1) p)
folders_more p i fs gs q h is pushed so_far =
    let rest = folders_at (take (i + 1) p) (drop (i + 1) p) in
    so_far ∙ ap (λ (x : List PlacedNode). fs ++ x) (folders_step p i h) ∙ sym (append_assoc fs (new_folder (take i p) ∷ []) rest)
    ∙ ap (λ (x : List PlacedNode). x ++ rest) (ap (λ (x : Names). fs ++ new_folder x ∷ []) (sym is) ∙ sym pushed)

pub folders_end : (p : Names) (i : ℕ) → length p ≤ i → folders_at (take i p) (drop i p) ≡ []
folders_end p i h = ap (folders_at (take i p)) (drop_all i p h)

pub file_step : (t : Tree) (p : Names) (i : ℕ) (b : Bool) → i < length p
    → b ≡ is_file (node_at t (take i p))
    → file_among t (take i p) (drop i p) ≡ (b || file_among t (take (i + 1) p) (drop (i + 1) p))
file_step t p i b h e =
    ap (list_any (λ (a : Names × List ℕ). is_file (node_at t a.0))) (above_step p i [] h) ∙ ap (λ (x : Bool). x || file_among t (take (i + 1) p) (drop (i + 1) p)) (sym e)

pub file_end : (t : Tree) (p : Names) (i : ℕ) → length p ≤ i → file_among t (take i p) (drop i p) ≡ false
file_end t p i h = ap (file_among t (take i p)) (drop_all i p h)

-- the names of a place hold no slash
onto_clean : (x : ℕ) (parts : Names) → is_slash x ≡ false → list_all clean parts ≡ true → list_all clean (onto_first x parts) ≡ true
onto_clean x [] e h = ap (λ (b : Bool). not (b || false) && true) e
onto_clean x (p ∷ ps) e h = ap (λ (b : Bool). not (b || list_any is_slash p) && list_all clean ps) e ∙ h

split_by : (b : Bool) (x : ℕ) (parts : Names) → is_slash x ≡ b → list_all clean parts ≡ true → list_all clean (cond b ([] ∷ parts) (onto_first x parts)) ≡ true
split_by true x parts e h = h
split_by false x parts e h = onto_clean x parts e h

split_clean : (xs : List ℕ) → list_all clean (slice_split is_slash xs) ≡ true
split_clean [] = refl
split_clean (x ∷ xs) = split_by (is_slash x) x (slice_split is_slash xs) refl (split_clean xs)

filter_by : (b : Bool) (p : List ℕ) (ps : Names) → is_name p ≡ b → clean p ≡ true → list_all is_whole_name ps ≡ true → list_all is_whole_name (cond b (p ∷ ps) ps) ≡ true
filter_by true p ps e h k = both (is_whole_name p) (list_all is_whole_name ps) (both (is_name p) (clean p) e h) k
filter_by false p ps e h k = k

filter_whole : (parts : Names) → list_all clean parts ≡ true → list_all is_whole_name (filter is_name parts) ≡ true
filter_whole [] h = refl
filter_whole (p ∷ ps) h =
    filter_by (is_name p) p (filter is_name ps) refl (left_of_and (clean p) (list_all clean ps) h) (filter_whole ps (right_of_and (clean p) (list_all clean ps) h))

pub names_whole : (place : List ℕ) → list_all is_whole_name (names_of place) ≡ true
unfolding names_of
names_whole place = filter_whole (slice_split is_slash place) (split_clean place)

folders_whole_from : (top ns : Names) → list_all is_whole_name top ≡ true → list_all is_whole_name ns ≡ true → list_all has_names (folders_at top ns) ≡ true
folders_whole_from top [] h k = refl
folders_whole_from top (n ∷ ns) h k =
    let first = left_of_and (is_whole_name n) (list_all is_whole_name ns) k in
    let longer : list_all is_whole_name (top ++ n ∷ []) ≡ true =
    list_all-append is_whole_name top (n ∷ [])
    ∙ both (list_all is_whole_name top) (is_whole_name n && true) h
    (both (is_whole_name n) true first refl) in
    both (list_all is_whole_name top) (list_all has_names (folders_at (top ++ n ∷ []) ns)) h
    (folders_whole_from (top ++ n ∷ []) ns longer
    (right_of_and (is_whole_name n) (list_all is_whole_name ns) k))

-- a place and the folders above it have whole names
pub added_whole : (n : PlacedNode) (p : Names) → n.names ≡ p → list_all is_whole_name p ≡ true → list_all has_names (folders_to p ++ n ∷ []) ≡ true
added_whole n p is h =
    list_all-append has_names (folders_to p) (n ∷ [])
    ∙ both (list_all has_names (folders_to p)) (has_names n && true)
    (ap (list_all has_names) (folders_begin p) ∙ folders_whole_from [] p refl h)
    (both (has_names n) true (ap (list_all is_whole_name) is ∙ h) refl)

-- the list of the folders above a place, and the place
pub pushed_last : (p q : Names) (n : PlacedNode) (fs ns : List PlacedNode) → q ≡ p → ns ≡ fs ++ n ∷ [] → fs ≡ folders_to q → ns ≡ folders_to p ++ n ∷ []
pushed_last p q n fs ns same pushed above = pushed ∙ ap (λ (x : List PlacedNode). x ++ n ∷ []) (above ∙ ap folders_to same)

-- one more folder above, the one that was added last being the nearest
pub found_more : (p : Names) (i : ℕ) (place n copy : List ℕ) (found more : List Above)
    → i < length p → n ≡ get_or p i n → copy ≡ n → names_of place ≡ take i p
    → more ≡ found ++ record { place = place; name = copy } ∷ []
    → folders_above [] p ≡ map above_view found ++ folders_above (take i p) (drop i p) → folders_above [] p ≡ map above_view more ++ folders_above (take (i + 1) p) (drop (i + 1) p)
found_more p i place n copy found more h is same at pushed so_far =
    let rest = folders_above (take (i + 1) p) (drop (i + 1) p) in
    let first : (take i p, get_or p i n) ≡ (names_of place, copy) = ap₂ (λ (x : Names) (y : List ℕ). (x, y)) (sym at) (sym (same ∙ is)) in
    let end : map above_view more ≡ map above_view found ++ (names_of place, copy) ∷ [] = ap (map above_view) pushed ∙ map-append above_view found (record { place = place; name = copy } ∷ []) in
    so_far ∙ ap (λ (x : List (Names × List ℕ)). map above_view found ++ x) (above_step p i n h ∙ ap (λ (x : Names × List ℕ). x ∷ rest) first)
    ∙ sym (append_assoc (map above_view found) ((names_of place, copy) ∷ []) rest) ∙ ap (λ (x : List (Names × List ℕ)). x ++ rest) (sym end)

pub found_end : (p : Names) (i : ℕ) (found : List (Names × List ℕ)) → length p ≤ i → found ++ folders_above (take i p) (drop i p) ≡ found
found_end p i found h = ap (λ (x : Names). found ++ folders_above (take i p) x) (drop_all i p h) ∙ append-nil found

pub whole_at : (p : Names) (i : ℕ) (n : List ℕ) → i < length p → n ≡ get_or p i n → list_all is_whole_name p ≡ true → is_whole_name n ≡ true
whole_at [] i n h is k = absurd (omega arith)
whole_at (m ∷ p) zero n h is k = ap is_whole_name is ∙ left_of_and (is_whole_name m) (list_all is_whole_name p) k
whole_at (m ∷ p) (suc i) n h is k = whole_at p i n (omega arith) is (right_of_and (is_whole_name m) (list_all is_whole_name p) k)

pub names_of_dot : names_of (46 ∷ []) ≡ []
unfolding names_of
names_of_dot = refl

-- the place of the next name
pub next_place : (p : Names) (i : ℕ) (place n next : List ℕ) → i < length p → n ≡ get_or p i n
    → list_all is_whole_name p ≡ true → names_of place ≡ take i p → next ≡ joined place n
    → names_of next ≡ take (i + 1) p
next_place p i place n next h is whole here made =
    ap names_of made ∙ names_of-joined place n ∙ ap₂ (λ (x y : Names). x ++ y) here (one_name n (whole_at p i n h is whole)) ∙ ap (λ (x : List ℕ). take i p ++ x ∷ []) is ∙ sym (take_more p i n h)
