-- What the roots of a walk leave of what is to be met.
use Rattle.std.proofs.Common.{◌≡◌, ℕ, ◌-◌, List, [], ◌∷◌, ◌++◌, length, reverse, Bool, true, false, cond, Option, Some, None, Ok, Err, refl, sym, ap, ap₂, ◌∙◌, arith, append-nil}
use Rattle.std.proofs.lemmas.List.{reverse-append, reverse-reverse}
use Rattle.std.specs.List.{flat_map}
use Rattle.tokei_folders.specs.declared.fs.Entry.{Entry}
use Rattle.tokei_folders.specs.declared.fs.Fault.TheVariants.{Refused}
use Rattle.tokei_folders.specs.declared.fs.Kind.{Kind}
use Rattle.tokei_folders.specs.declared.fs.Kind.TheVariants.{File, Folder}
use Rattle.tokei_folders.specs.declared.nodes.Node.{Node}
use Rattle.tokei_folders.specs.declared.nodes.Node.TheVariants.{File as file, Folder as folder}
use Rattle.tokei_folders.specs.Answers.{list_answer, node_kind}
use Rattle.tokei_folders.specs.Tree.{Tree, names_of, node_at}
use Rattle.tokei_ignore.specs.declared.patterns.Pattern.{Pattern}
use Rattle.tokei_ignore.specs.Fits.{is_empty}
use Rattle.tokei_walk.specs.declared.kept_file.KeptFile.{KeptFile}
use Rattle.tokei_walk.specs.declared.kept_file.Note.{Note}
use Rattle.tokei_walk.specs.declared.kept_file.NoteKind.TheVariants.{MissingRoot, Unlisted}
use Rattle.tokei_walk.specs.declared.levels.Context.{Context}
use Rattle.tokei_walk.specs.declared.levels.Rules.{Rules}
use Rattle.tokei_walk.specs.declared.rules_files.Sought.{Sought}
use Rattle.tokei_walk.specs.declared.stack.Stack.{Stack}
use Rattle.tokei_walk.specs.declared.walking.Walk.{Walk}
use Rattle.tokei_walk.specs.Descent.{outer, root_context, with_level}
use Rattle.tokei_walk.specs.Levels.{level_at}
use Rattle.tokei_walk.specs.Met.{Keeps, Met, as_met, met_below, met_entries, met_file, met_folder, met_in, met_listing, met_node, met_note, met_root}
use Rattle.tokei_walk.specs.MetSteps.{ExploreMeets, Meets, with_found}
use Rattle.tokei_walk.specs.ToMeet.{met_all, met_frames, met_stack, met_top}
use Rattle.tokei_walk.specs.Noted.{Noted, NotesSay, noted_above, noted_level, noted_of}
use Rattle.tokei_walk.specs.Sought.{level_of, listed}
use Rattle.tokei_walk.specs.Stacks.{NoneStays}
use Rattle.tokei_walk.specs.Walks.{RootIs, met_to_come}
use Rattle.tokei_walk.proofs.ListedFiles.{level_listed}
use Rattle.tokei_walk.proofs.Meeting.{found_more, met_by, met_from, met_more, met_said, met_to}
use Rattle.tokei_walk.proofs.MetSteps.{empty_meets, meets_in_stack, same_entries, top_ends}
use Rattle.tokei_walk.proofs.Noting.{listed_noted, says_on, says_what}
use Rattle.tokei_walk.proofs.RootSteps.{known_kind, known_named}

folder_listed : (xs : List Pattern) (r : Rules) (t : Tree) (root : List ℕ) (es : List Entry) → list_answer t (names_of root) ≡ Ok es
    → met_folder xs r t root
    ≡ as_met (noted_above t r (names_of root) ++ noted_level t r (names_of root))
    ++ met_entries xs r (met_below xs r t 256) (with_level (root_context t r (names_of root)) (level_at t r (names_of root))) root es
unfolding met_folder
folder_listed xs r t root es e =
    ap
    (met_listing root
    (λ fs. as_met (noted_above t r (names_of root) ++ noted_level t r (names_of root))
    ++ met_entries xs r (met_below xs r t 256) (with_level (root_context t r (names_of root)) (level_at t r (names_of root))) root fs))
    e

folder_unlisted : (xs : List Pattern) (r : Rules) (t : Tree) (root : List ℕ) → list_answer t (names_of root) ≡ Err Refused → met_folder xs r t root ≡ met_note Unlisted root
unfolding met_folder
folder_unlisted xs r t root e =
    ap
    (met_listing root
    (λ fs. as_met (noted_above t r (names_of root) ++ noted_level t r (names_of root))
    ++ met_entries xs r (met_below xs r t 256) (with_level (root_context t r (names_of root)) (level_at t r (names_of root))) root fs))
    e

one_stack : (xs : List Pattern) (r : Rules) (t : Tree) (s : Stack) → s.holders ≡ [] → met_top xs r t s ≡ met_stack xs r t s
unfolding met_frames
one_stack xs r t s below =
    let frames : met_frames xs r t (outer s.context) (reverse s.holders) ≡ [] = ap (λ fs. met_frames xs r t (outer s.context) (reverse fs)) below in
    sym (ap (λ (q : List Met). met_top xs r t s ++ q) frames ∙ append-nil (met_top xs r t s))

-- a root that is listed and walked: its rules were read, and those above it
pub root_walked : (xs : List Pattern) (r : Rules) (t : Tree) (s : Stack) (c : Context) (q : Sought) (root at : List ℕ) (es : List Entry) (n m k : List Note)
    → list_answer t (names_of root) ≡ Ok es → q ≡ listed r es → at ≡ root
    → c ≡ with_level (root_context t r (names_of at)) (level_of t q (names_of at))
    → s.context ≡ c → s.place ≡ root → reverse s.left ≡ es → s.holders ≡ []
    → NotesSay n m [] → NotesSay m k (noted_above t r (names_of at) ++ noted_of t q (names_of at))
    → Meets n (met_folder xs r t root) k (met_stack xs r t s)
root_walked xs r t s c q root at es n m k entries sought here told context place left below quiet said =
    let p = names_of root in
    let rules = level_at t r p in
    let above = noted_above t r p in let own = noted_level t r p in
    let level : level_of t q (names_of at) ≡ rules = ap₂ (λ (x : Sought) (w : List ℕ). level_of t x (names_of w)) sought here ∙ level_listed t r p es entries in
    let noted : noted_of t q (names_of at) ≡ own = ap₂ (λ (x : Sought) (w : List ℕ). noted_of t x (names_of w)) sought here ∙ listed_noted t r p es entries in
    let both : noted_above t r (names_of at) ++ noted_of t q (names_of at) ≡ above ++ own = ap₂ (λ (x y : List Noted). x ++ y) (ap (λ w. noted_above t r (names_of w)) here) noted in
    let made : s.context ≡ with_level (root_context t r p) rules = context ∙ told ∙ ap₂ with_level (ap (λ w. root_context t r (names_of w)) here) level in
    let deep : 256 ≡ 256 - length s.holders = omega (arith, ap length below) in
    let top : met_entries xs r (met_below xs r t 256) (with_level (root_context t r p) rules) root es ≡ met_top xs r t s =
    ap (met_entries xs r (met_below xs r t 256) (with_level (root_context t r p) rules) root) (sym left)
    ∙ same_entries xs r t (reverse s.left) deep (sym made) (sym place) in
    let whole : met_folder xs r t root ≡ as_met (above ++ own) ++ met_stack xs r t s =
    folder_listed xs r t root es entries ∙ ap (λ (x : List Met). as_met (above ++ own) ++ x) (top ∙ one_stack xs r t s below) in
    met_by n k (above ++ own) (met_stack xs r t s) (met_folder xs r t root) whole
    (says_what n k _ (above ++ own) both (says_on n m k [] _ quiet said))

-- a root that can't be listed
pub root_unlisted : (xs : List Pattern) (r : Rules) (t : Tree) (s : Stack) (root : List ℕ) (n m : List Note)
    → list_answer t (names_of root) ≡ Err Refused → s.left ≡ [] → s.holders ≡ [] → NotesSay n m ((Unlisted, names_of root) ∷ [])
    → Meets n (met_folder xs r t root) m (met_stack xs r t s)
unfolding as_met
root_unlisted xs r t s root n m refused left below said =
    met_to n m _ [] _ (sym (empty_meets xs r t s left below)) (met_said n m ((Unlisted, names_of root) ∷ []) _ (folder_unlisted xs r t root refused) said)

node_missing : (xs : List Pattern) (r : Rules) (t : Tree) (root : List ℕ) (o : Option Node) → node_kind o ≡ None → met_node xs r t root o ≡ met_note MissingRoot root
node_missing xs r t root None e = refl
node_missing xs r t root (Some (file a b c)) e = absurd (cc)
node_missing xs r t root (Some (folder a)) e = absurd (cc)

node_file : (xs : List Pattern) (r : Rules) (t : Tree) (root : List ℕ) (o : Option Node) → node_kind o ≡ Some File → met_node xs r t root o ≡ met_file root
node_file xs r t root None e = absurd (cc)
node_file xs r t root (Some (file a b c)) e = refl
node_file xs r t root (Some (folder a)) e = absurd (cc)

node_folder : (xs : List Pattern) (r : Rules) (t : Tree) (root : List ℕ) (o : Option Node) → node_kind o ≡ Some Folder → met_node xs r t root o ≡ met_folder xs r t root
node_folder xs r t root None e = absurd (cc)
node_folder xs r t root (Some (file a b c)) e = absurd (cc)
node_folder xs r t root (Some (folder a)) e = refl

blank : (xs : List Pattern) (r : Rules) (t : Tree) (root : List ℕ) → is_empty root ≡ true → met_root xs r t root ≡ met_note MissingRoot root
unfolding met_root
blank xs r t root e = ap (λ b. met_node xs r t root (cond b None (node_at t (names_of root)))) e

named : (xs : List Pattern) (r : Rules) (t : Tree) (root : List ℕ) → is_empty root ≡ false → met_root xs r t root ≡ met_node xs r t root (node_at t (names_of root))
unfolding met_root
named xs r t root e = ap (λ b. met_node xs r t root (cond b None (node_at t (names_of root)))) e

missing_by : (xs : List Pattern) (r : Rules) (t : Tree) (root : List ℕ) (b : Bool) → is_empty root ≡ b → (is_empty root ≡ false → None ≡ node_kind (node_at t (names_of root)))
    → met_root xs r t root ≡ met_note MissingRoot root
missing_by xs r t root true e h = blank xs r t root e
missing_by xs r t root false e h = named xs r t root e ∙ node_missing xs r t root (node_at t (names_of root)) (sym (h e))

-- what is met of a root, by what stands there
pub root_missing : (xs : List Pattern) (r : Rules) (t : Tree) (root : List ℕ) (k : Option Kind) → RootIs t root k → k ≡ None → met_root xs r t root ≡ met_note MissingRoot root
root_missing xs r t root k is e = missing_by xs r t root (is_empty root) refl (λ h. sym e ∙ is.1 h)

pub root_file : (xs : List Pattern) (r : Rules) (t : Tree) (root : List ℕ) (k : Option Kind) → RootIs t root k → k ≡ Some File → met_root xs r t root ≡ met_file root
root_file xs r t root k is e = named xs r t root (known_named t root k File is e) ∙ node_file xs r t root (node_at t (names_of root)) (sym (known_kind t root k File is e))

pub root_folder : (xs : List Pattern) (r : Rules) (t : Tree) (root : List ℕ) (k : Option Kind) → RootIs t root k → k ≡ Some Folder → met_root xs r t root ≡ met_folder xs r t root
root_folder xs r t root k is e = named xs r t root (known_named t root k Folder is e) ∙ node_folder xs r t root (node_at t (names_of root)) (sym (known_kind t root k Folder is e))

file_of : List ℕ → List ℕ → List Met → List Met
file_of path place rest = Keeps (record { path = path; place = place }) ∷ rest

-- the file that a root is, and nothing behind it
pub one_file : (path root : List ℕ) (rest : List Met) → path ≡ root → rest ≡ [] → met_file root ≡ Keeps (record { path = path; place = root }) ∷ rest
unfolding file_of
one_file path root rest is none = λ i. file_of (sym is i) root (sym none i)

roots_pop : (xs : List Pattern) (r : Rules) (t : Tree) (roots front : List (List ℕ)) (root : List ℕ) → roots ≡ front ++ root ∷ []
    → met_in xs r t (reverse roots) ≡ met_root xs r t root ++ met_in xs r t (reverse front)
unfolding met_in
roots_pop xs r t roots front root is = ap (flat_map (met_root xs r t)) (ap reverse is ∙ reverse-append front (root ∷ []))

-- the next root, where nothing of the one before is left
root_begins : (xs : List Pattern) (r : Rules) (t : Tree) (s : Stack) (roots front : List (List ℕ)) (root : List ℕ)
    → s.left ≡ [] → s.holders ≡ [] → roots ≡ front ++ root ∷ []
    → met_all xs r t s roots ≡ met_root xs r t root ++ met_in xs r t (reverse front)
root_begins xs r t s roots front root left below is = ap₂ (λ (a b : List Met). a ++ b) (empty_meets xs r t s left below) (roots_pop xs r t roots front root is)

-- a root is begun
pub meets_root : (xs : List Pattern) (r : Rules) (t : Tree) (s u : Stack) (roots front : List (List ℕ)) (root : List ℕ) (n m : List Note) (o : Option KeptFile)
    → s.left ≡ [] → s.holders ≡ [] → roots ≡ front ++ root ∷ []
    → Meets n (met_root xs r t root) m (with_found o (met_stack xs r t u))
    → Meets n (met_all xs r t s roots) m (with_found o (met_all xs r t u front))
meets_root xs r t s u roots front root n m o left below is met =
    let rest = met_in xs r t (reverse front) in
    met_from n m _ (met_root xs r t root ++ rest) _ (root_begins xs r t s roots front root left below is)
    (met_to n m _ (with_found o (met_stack xs r t u) ++ rest) _ (found_more o (met_stack xs r t u) rest)
    (met_more n m (met_root xs r t root) (with_found o (met_stack xs r t u)) rest met))

-- of the walked folder nothing is left, and all of it was met
pub all_explored : (xs : List Pattern) (r : Rules) (t : Tree) (s v : Stack) (roots : List (List ℕ)) (n m : List Note) → NoneStays s v None
    → ExploreMeets xs r t s v n m None → Meets n (met_all xs r t s roots) m (met_all xs r t v roots)
all_explored xs r t s v roots n m stays met =
    met_more n m (met_stack xs r t s) (met_stack xs r t v) (met_in xs r t (reverse roots))
    (meets_in_stack xs r t s v n m stays.0 (met_to n m (met_top xs r t s) [] (met_top xs r t v) (sym (top_ends xs r t v (ap reverse stays.1))) met))

-- a file was found below the walked folder
pub all_found : (xs : List Pattern) (r : Rules) (t : Tree) (s v : Stack) (roots : List (List ℕ)) (n m : List Note) (k : KeptFile)
    → ExploreMeets xs r t s v n m (Some k) → Meets n (met_all xs r t s roots) m (with_found (Some k) (met_all xs r t v roots))
all_found xs r t s v roots n m k met =
    met_more n m (met_stack xs r t s) (with_found (Some k) (met_stack xs r t v)) (met_in xs r t (reverse roots)) met

-- of roots that are none nothing is to be met
pub no_roots : (xs : List Pattern) (r : Rules) (t : Tree) (s : Stack) (roots : List (List ℕ)) → s.left ≡ [] → s.holders ≡ [] → roots ≡ [] → met_all xs r t s roots ≡ []
unfolding met_in
no_roots xs r t s roots left below none =
    ap₂ (λ (a b : List Met). a ++ b) (empty_meets xs r t s left below) (ap (λ (q : List (List ℕ)). flat_map (met_root xs r t) (reverse q)) none)

pub to_come_left : (t : Tree) (w : Walk) → w.failed ≡ false → met_to_come t w ≡ met_all w.settings.excludes w.settings.rules t w.stack w.roots
unfolding met_to_come
to_come_left t w e = ap (λ b. cond b [] (met_all w.settings.excludes w.settings.rules t w.stack w.roots)) e

pub to_come_failed : (t : Tree) (w : Walk) → w.failed ≡ true → met_to_come t w ≡ []
unfolding met_to_come
to_come_failed t w e = ap (λ b. cond b [] (met_all w.settings.excludes w.settings.rules t w.stack w.roots)) e

-- a walk that is begun has all of its roots to meet
pub begun : (t : Tree) (w : Walk) (xs : List Pattern) (roots : List (List ℕ)) → w.failed ≡ false
    → w.settings.excludes ≡ xs → w.stack.left ≡ [] → w.stack.holders ≡ [] → w.roots ≡ reverse roots
    → met_to_come t w ≡ met_in xs w.settings.rules t roots
begun t w xs roots e is left below turned_round =
    to_come_left t w e ∙ ap (λ (q : List Met). q ++ met_in w.settings.excludes w.settings.rules t (reverse w.roots)) (empty_meets w.settings.excludes w.settings.rules t w.stack left below)
    ∙ ap₂ (λ (ys : List Pattern) (q : List (List ℕ)). met_in ys w.settings.rules t (reverse q)) is turned_round ∙ ap (met_in xs w.settings.rules t) (reverse-reverse roots)

-- what a walk meets by a step
pub walk_meets : (t : Tree) (w v : Walk) (n m : List Note) (o : Option KeptFile) → w.failed ≡ false → v.failed ≡ false
    → Meets n (met_all w.settings.excludes w.settings.rules t w.stack w.roots) m (with_found o (met_all v.settings.excludes v.settings.rules t v.stack v.roots))
    → Meets n (met_to_come t w) m (with_found o (met_to_come t v))
walk_meets t w v n m o before after met = met_from n m _ _ _ (to_come_left t w before) (met_to n m _ _ _ (ap (with_found o) (sym (to_come_left t v after))) met)
