-- What notes and what is still to be met say together, and the files and notes among what is met.
use Rattle.std.proofs.Common.{◌≡◌, ℕ, zero, suc, List, [], ◌∷◌, ◌++◌, Bool, true, false, cond, Option, Some, None, Result, Ok, Err, refl, sym, ap, ap₂, ◌∙◌, append_assoc, append-nil}
use Rattle.std.proofs.lemmas.List.{map-append}
use Rattle.tokei_folders.specs.declared.fs.Entry.{Entry}
use Rattle.tokei_folders.specs.declared.fs.Fault.{Fault}
use Rattle.tokei_folders.specs.declared.fs.Kind.{Kind}
use Rattle.tokei_folders.specs.declared.fs.Kind.TheVariants.{File, Folder, Other}
use Rattle.tokei_folders.specs.declared.nodes.Node.{Node}
use Rattle.tokei_folders.specs.declared.nodes.Node.TheVariants.{File as file, Folder as folder}
use Rattle.tokei_folders.specs.Answers.{list_answer}
use Rattle.tokei_folders.specs.Places.{joined}
use Rattle.tokei_folders.specs.Tree.{Tree, names_of, node_at}
use Rattle.tokei_ignore.specs.declared.patterns.Pattern.{Pattern}
use Rattle.tokei_ignore.specs.Fits.{is_empty}
use Rattle.tokei_walk.specs.declared.kept_file.KeptFile.{KeptFile}
use Rattle.tokei_walk.specs.declared.kept_file.Note.{Note}
use Rattle.tokei_walk.specs.declared.levels.Context.{Context}
use Rattle.tokei_walk.specs.declared.levels.Rules.{Rules}
use Rattle.tokei_walk.specs.Descent.{descend, is_folder, of_entries, of_entry, of_kind, of_listing, of_node, of_root, root_context, with_level}
use Rattle.tokei_walk.specs.Levels.{drops, level_at, under}
use Rattle.tokei_walk.specs.Met.{Keeps, Met, Notes, as_met, files_in, met_below, met_entries, met_entry, met_folder, met_in, met_kind, met_listing, met_node, met_root, notes_in}
use Rattle.tokei_walk.specs.MetSteps.{Meets, with_found}
use Rattle.tokei_walk.specs.Noted.{Noted, NotesCome, NotesSay, noted_above, noted_level, said_in}
use Rattle.tokei_walk.specs.Walks.{Advances, descended}

as_append : (xs ys : List Noted) → as_met (xs ++ ys) ≡ as_met xs ++ as_met ys
unfolding as_met
as_append xs ys = map-append (λ n. Notes n) xs ys

-- with what is met behind both
pub met_more : (a b : List Note) (xs ys zs : List Met) → Meets a xs b ys → Meets a (xs ++ zs) b (ys ++ zs)
met_more a b xs ys zs h = sym (append_assoc (as_met (said_in a)) xs zs) ∙ ap (λ (q : List Met). q ++ zs) h ∙ append_assoc (as_met (said_in b)) ys zs

-- where the first part of what is to be met is said, the rest is left
pub met_by : (a b : List Note) (ns : List Noted) (ys zs : List Met) → zs ≡ as_met ns ++ ys → NotesSay a b ns → Meets a zs b ys
met_by a b ns ys zs e h =
    ap (λ (q : List Met). as_met (said_in a) ++ q) e ∙ sym (append_assoc (as_met (said_in a)) (as_met ns) ys)
    ∙ ap (λ (q : List Met). q ++ ys) (sym (as_append (said_in a) ns)) ∙ ap (λ (q : List Noted). as_met q ++ ys) (sym h)

-- all that is to be met is said
pub met_said : (a b : List Note) (ns : List Noted) (zs : List Met) → zs ≡ as_met ns → NotesSay a b ns → Meets a zs b []
met_said a b ns zs e h = met_by a b ns [] zs (e ∙ sym (append-nil (as_met ns))) h

-- no note is added, and the same is to be met
pub met_same : (a b : List Note) (xs ys : List Met) → b ≡ a → xs ≡ ys → Meets a xs b ys
met_same a b xs ys e same = ap₂ (λ (n : List Note) (q : List Met). as_met (said_in n) ++ q) (sym e) same

-- before a step the same was to be met, and behind it
pub met_from : (a b : List Note) (ws xs ys : List Met) → ws ≡ xs → Meets a xs b ys → Meets a ws b ys
met_from a b ws xs ys e h = ap (λ (q : List Met). as_met (said_in a) ++ q) e ∙ h

pub met_to : (a b : List Note) (xs ys zs : List Met) → ys ≡ zs → Meets a xs b ys → Meets a xs b zs
met_to a b xs ys zs e h = h ∙ ap (λ (q : List Met). as_met (said_in b) ++ q) e

-- what is behind a file that was found, and behind none
pub found_more : (o : Option KeptFile) (xs ys : List Met) → with_found o xs ++ ys ≡ with_found o (xs ++ ys)
found_more None xs ys = refl
found_more (Some k) xs ys = refl

files_append : (xs ys : List Met) → files_in (xs ++ ys) ≡ files_in xs ++ files_in ys
unfolding files_in
files_append [] ys = refl
files_append (Keeps k ∷ xs) ys = ap (λ (q : List KeptFile). k ∷ q) (files_append xs ys)
files_append (Notes n ∷ xs) ys = files_append xs ys

files_of_notes : (ns : List Noted) → files_in (as_met ns) ≡ []
unfolding files_in as_met
files_of_notes [] = refl
files_of_notes (n ∷ ns) = files_of_notes ns

files_behind : (ns : List Noted) (xs : List Met) → files_in (as_met ns ++ xs) ≡ files_in xs
files_behind ns xs = files_append (as_met ns) xs ∙ ap (λ (q : List KeptFile). q ++ files_in xs) (files_of_notes ns)

notes_behind : (ns : List Noted) (xs : List Met) → notes_in (as_met ns ++ xs) ≡ ns ++ notes_in xs
unfolding notes_in as_met
notes_behind [] xs = refl
notes_behind (n ∷ ns) xs = ap (λ (q : List Noted). n ∷ q) (notes_behind ns xs)

-- the files of what is to be met are left
pub files_left : (a b : List Note) (xs ys : List Met) → Meets a xs b ys → files_in xs ≡ files_in ys
files_left a b xs ys h = sym (files_behind (said_in a) xs) ∙ ap files_in h ∙ files_behind (said_in b) ys

notes_found : (o : Option KeptFile) (xs : List Met) → notes_in (with_found o xs) ≡ notes_in xs
unfolding notes_in
notes_found None xs = refl
notes_found (Some k) xs = refl

-- the notes that are added are those of which there is less
pub notes_come : (a b : List Note) (o : Option KeptFile) (xs ys : List Met) → Meets a xs b (with_found o ys) → NotesCome a (notes_in xs) b (notes_in ys)
notes_come a b o xs ys h =
    sym (notes_behind (said_in a) xs) ∙ ap notes_in h ∙ notes_behind (said_in b) (with_found o ys) ∙ ap (λ (q : List Noted). said_in b ++ q) (notes_found o ys)

-- the first file of what is to be met is found, or there is none
pub advances : (a b : List Note) (o : Option KeptFile) (xs ys : List Met) → Meets a xs b (with_found o ys) → (o ≡ None → ys ≡ []) → Advances (files_in xs) (files_in ys) o
unfolding files_in
advances a b None xs ys h none = files_left a b xs ys h ∙ ap files_in (none refl)
advances a b (Some k) xs ys h none = files_left a b xs (Keeps k ∷ ys) h

files_kind : (k : Kind) (b : Bool) (place : List ℕ) (inner : List Met) (own : List KeptFile) → files_in inner ≡ own → files_in (met_kind k b place inner) ≡ of_kind k b place own
unfolding files_in
files_kind File true place inner own e = refl
files_kind File false place inner own e = refl
files_kind Folder true place inner own e = refl
files_kind Folder false place inner own e = e
files_kind Other b place inner own e = refl

files_entries : (xs : List Pattern) (r : Rules) (inside : Context → List ℕ → List Met) (own : Context → List ℕ → List KeptFile) (c : Context) (place : List ℕ) (es : List Entry)
    → ((d : Context) (at : List ℕ) → files_in (inside d at) ≡ own d at) → files_in (met_entries xs r inside c place es) ≡ of_entries xs r own c place es
unfolding met_entries of_entries met_entry of_entry files_in
files_entries xs r inside own c place [] h = refl
files_entries xs r inside own c place (e ∷ es) h =
    files_append (met_entry xs r inside c place e) (met_entries xs r inside c place es)
    ∙ ap₂ (λ (p q : List KeptFile). p ++ q)
    (files_kind e.kind (drops xs r c e.name (is_folder e.kind)) (joined place e.name) (inside (under c e.name) (joined place e.name)) (own (under c e.name) (joined place e.name))
    (h (under c e.name) (joined place e.name)))
    (files_entries xs r inside own c place es h)

files_listing : (place : List ℕ) (entries : List Entry → List Met) (own : Context → List ℕ → List Entry → List KeptFile) (c : Context) (q : Result (List Entry) Fault)
    → ((es : List Entry) → files_in (entries es) ≡ own c place es) → files_in (met_listing place entries q) ≡ of_listing own c place q
unfolding files_in
files_listing place entries own c (Ok es) h = h es
files_listing place entries own c (Err e) h = refl

files_below : (xs : List Pattern) (r : Rules) (t : Tree) (n : ℕ) (c : Context) (place : List ℕ) → files_in (met_below xs r t n c place) ≡ descend xs r t n c place
unfolding met_below descend files_in
files_below xs r t zero c place = refl
files_below xs r t (suc n) c place =
    files_listing place
    (λ es. as_met (noted_level t r (names_of place)) ++ met_entries xs r (met_below xs r t n) (with_level c (level_at t r (names_of place))) place es)
    (λ d at es. of_entries xs r (descend xs r t n) (with_level d (level_at t r (names_of at))) at es)
    c (list_answer t (names_of place))
    (λ es. files_behind (noted_level t r (names_of place)) (met_entries xs r (met_below xs r t n) (with_level c (level_at t r (names_of place))) place es)
    ∙ files_entries xs r (met_below xs r t n) (descend xs r t n) (with_level c (level_at t r (names_of place))) place es (files_below xs r t n))

files_folder : (xs : List Pattern) (r : Rules) (t : Tree) (root : List ℕ) → files_in (met_folder xs r t root) ≡ descend xs r t 257 (root_context t r (names_of root)) root
unfolding met_folder descend
files_folder xs r t root =
    let p = names_of root in let c = root_context t r p in
    files_listing root
    (λ es. as_met (noted_above t r p ++ noted_level t r p) ++ met_entries xs r (met_below xs r t 256) (with_level c (level_at t r p)) root es)
    (λ d at es. of_entries xs r (descend xs r t 256) (with_level d (level_at t r (names_of at))) at es)
    c (list_answer t p)
    (λ es. files_behind (noted_above t r p ++ noted_level t r p) (met_entries xs r (met_below xs r t 256) (with_level c (level_at t r p)) root es)
    ∙ files_entries xs r (met_below xs r t 256) (descend xs r t 256) (with_level c (level_at t r p)) root es (files_below xs r t 256))

files_node : (xs : List Pattern) (r : Rules) (t : Tree) (root : List ℕ) (o : Option Node) → files_in (met_node xs r t root o) ≡ of_node xs r t root o
unfolding files_in
files_node xs r t root None = refl
files_node xs r t root (Some (file a b c)) = refl
files_node xs r t root (Some (folder a)) = files_folder xs r t root

files_by : (xs : List Pattern) (r : Rules) (t : Tree) (root : List ℕ) (b : Bool)
    → files_in (met_node xs r t root (cond b None (node_at t (names_of root)))) ≡ cond b [] (of_node xs r t root (node_at t (names_of root)))
unfolding files_in
files_by xs r t root true = refl
files_by xs r t root false = files_node xs r t root (node_at t (names_of root))

files_root : (xs : List Pattern) (r : Rules) (t : Tree) (root : List ℕ) → files_in (met_root xs r t root) ≡ of_root xs r t root
unfolding met_root of_root
files_root xs r t root = files_by xs r t root (is_empty root)

-- the files of what is met of roots are those of the descent
pub files_met : (xs : List Pattern) (r : Rules) (t : Tree) (roots : List (List ℕ)) → files_in (met_in xs r t roots) ≡ descended xs r t roots
unfolding met_in descended files_in
files_met xs r t [] = refl
files_met xs r t (p ∷ ps) =
    files_append (met_root xs r t p) (met_in xs r t ps) ∙ ap₂ (λ (a b : List KeptFile). a ++ b) (files_root xs r t p) (files_met xs r t ps)
