-- What notes say, and of which ignore files.
use Rattle.std.proofs.Common.{◌≡◌, ℕ, zero, suc, ◌&&◌, codes, List, [], ◌∷◌, ◌++◌, Bool, true, false, cond, Option, Some, None, is_some, Result, Ok, Err, map, replicate, reverse, refl, sym, ap, ap₂, ◌∙◌, append_assoc, append-nil, subst, OnOk}
use Rattle.std.proofs.lemmas.List.{append_cancel_left, map-append}
use Rattle.tokei_folders.specs.declared.fs.Entry.{Entry}
use Rattle.tokei_folders.specs.declared.nodes.Node.{Node}
use Rattle.tokei_folders.specs.declared.nodes.Node.TheVariants.{File as file, Folder as folder}
use Rattle.tokei_folders.specs.declared.fs.Above.{Above}
use Rattle.tokei_folders.specs.declared.fs.Listing.{Listing}
use Rattle.tokei_folders.specs.Answers.{above_view, list_answer}
use Rattle.tokei_folders.specs.Places.{joined}
use Rattle.tokei_folders.specs.Tree.{Names, Tree, folders_above, node_at, names_of}
use Rattle.tokei_folders.proofs.Joining.{names_of-joined}
use Rattle.tokei_ignore.specs.IgnoreFiles.{bad_lines_of}
use Rattle.tokei_walk.specs.declared.kept_file.Note.{Note}
use Rattle.tokei_walk.specs.declared.kept_file.NoteKind.TheVariants.{BadLine}
use Rattle.tokei_walk.specs.declared.levels.Rules.{Rules}
use Rattle.tokei_walk.specs.declared.rules_files.Sought.{Sought}
use Rattle.tokei_walk.specs.Levels.{has_git}
use Rattle.tokei_walk.specs.Noted.{Noted, NotesCome, NotesSay, noted_above, noted_at, noted_file, noted_level, noted_of, noted_over, said_by, said_in}
use Rattle.tokei_walk.specs.Notes.{Grows, bad_line_notes, ignore_notes, listing_notes, lost_notes, unnamed_notes}
use Rattle.tokei_walk.specs.Sought.{listed, lists}
use Rattle.std.specs.List.{flat_map}
use Rattle.tokei_walk.proofs.ListedFiles.{entries_are, listed_names}
use Rattle.tokei_walk.proofs.RootSteps.{turned}

pub says_none : (a b : List Note) → b ≡ a → NotesSay a b []
says_none a b e = ap said_in e ∙ sym (append-nil (said_in a))

pub says_more : (a b m : List Note) → b ≡ a ++ m → NotesSay a b (map said_by m)
unfolding said_in
says_more a b m e = ap (map said_by) e ∙ map-append said_by a m

pub says_on : (a b c : List Note) (xs ys : List Noted) → NotesSay a b xs → NotesSay b c ys → NotesSay a c (xs ++ ys)
says_on a b c xs ys e f = f ∙ ap (λ (q : List Noted). q ++ ys) e ∙ append_assoc (said_in a) xs ys

pub says_what : (a b : List Note) (xs ys : List Noted) → xs ≡ ys → NotesSay a b xs → NotesSay a b ys
says_what a b xs ys e f = f ∙ ap (λ (q : List Noted). said_in a ++ q) e

-- all that comes is said
pub come_all : (a b : List Note) (xs ys : List Noted) → ys ≡ [] → NotesCome a xs b ys → NotesSay a b xs
come_all a b xs ys none h = sym (h ∙ ap (λ (q : List Noted). said_in b ++ q) none ∙ append-nil (said_in b))

-- what notes say that were put behind
pub grown_says : (a b : List Note) (grown : Grows a b) (xs : List Noted) → NotesSay a b xs → said_in grown.more ≡ xs
unfolding said_in
grown_says a b grown xs h = append_cancel_left (said_in a) (said_in grown.more) xs (sym (says_more a b grown.more grown.is) ∙ h)

lines_said : (place : List ℕ) (n : ℕ) → map said_by (bad_line_notes place n) ≡ replicate n (BadLine, names_of place)
lines_said place zero = refl
lines_said place (suc n) = ap (λ (q : List Noted). (BadLine, names_of place) ∷ q) (lines_said place n)

-- the notes of an ignore file
pub file_said : (place : List ℕ) (o : Option Node) → map said_by (ignore_notes place o) ≡ noted_file (names_of place) o
file_said place None = refl
file_said place (Some (folder r)) = refl
file_said place (Some (file true h content)) = refl
file_said place (Some (file false h content)) = lines_said place (bad_lines_of content)

joined_by : {X E : Type 0} (r : Result X E) (a b m : List Note) (xs : List Noted) → map said_by m ≡ xs → OnOk r (b ≡ a ++ m) → OnOk r (NotesSay a b xs)
joined_by (Ok x) a b m xs e h = says_what a b (map said_by m) xs e (says_more a b m h)
joined_by (Err x) a b m xs e h = tt

-- the notes of one at a joined place
pub noted_joined : {X E : Type 0} (r : Result X E) (t : Tree) (a b : List Note) (on : Bool) (w p n : List ℕ)
    → on ≡ true → w ≡ joined p n → OnOk r (b ≡ a ++ ignore_notes w (node_at t (names_of w)))
    → OnOk r (NotesSay a b (cond on (noted_at t (names_of p) (names_of n)) []))
unfolding noted_at
noted_joined r t a b on w p n is_on is h =
    let same : names_of w ≡ names_of p ++ names_of n = ap names_of is ∙ names_of-joined p n in
    let at : Names → List Noted = λ q. noted_file q (node_at t q) in
    joined_by r a b (ignore_notes w (node_at t (names_of w))) (cond on (at (names_of p ++ names_of n)) [])
    (file_said w (node_at t (names_of w)) ∙ ap at same ∙ sym (ap (λ (x : Bool). cond x (at (names_of p ++ names_of n)) []) is_on)) h

-- nothing is noted of one that is off
pub noted_off : (t : Tree) (a b : List Note) (on : Bool) (p n : Names) → on ≡ false → b ≡ a → NotesSay a b (cond on (noted_at t p n) [])
noted_off t a b on p n off e = says_what a b [] (cond on (noted_at t p n) []) (sym (ap (λ (x : Bool). cond x (noted_at t p n) []) off)) (says_none a b e)

-- those of the files that are sought
pub sought_noted : (t : Tree) (s : Sought) (p : Names) (a b c : List Note)
    → NotesSay a b (cond s.tokeignore (noted_at t p (names_of (codes ".tokeignore"))) [] ++ cond s.ignore (noted_at t p (names_of (codes ".ignore"))) [])
    → NotesSay b c (cond s.gitignore (noted_at t p (names_of (codes ".gitignore"))) [] ++ cond s.git (noted_at t p (names_of (codes ".git/info/exclude"))) [])
    → NotesSay a c (noted_of t s p)
unfolding noted_of names_of
sought_noted t s p a b c first second =
    let one = cond s.tokeignore (noted_at t p (codes ".tokeignore" ∷ [])) [] in
    let two = cond s.ignore (noted_at t p (codes ".ignore" ∷ [])) [] in
    let rest = cond s.gitignore (noted_at t p (codes ".gitignore" ∷ [])) [] ++ cond s.git (noted_at t p (codes ".git" ∷ codes "info" ∷ codes "exclude" ∷ [])) [] in
    says_what a c ((one ++ two) ++ rest) (one ++ (two ++ rest)) (append_assoc one two rest) (says_on a b c (one ++ two) rest first second)

-- a folder's own, where its `.git` is known and each file is sought
pub level_noted : (t : Tree) (r : Rules) (p : Names) (g : Bool) → g ≡ (r.git && is_some (node_at t (p ++ names_of (codes ".git"))))
    → noted_of t (record { git = g; tokeignore = r.dot; ignore = r.dot; gitignore = r.git }) p ≡ noted_level t r p
unfolding noted_level has_git names_of
level_noted t r p g is = ap (λ (x : Bool). noted_of t (record { git = x; tokeignore = r.dot; ignore = r.dot; gitignore = r.git }) p) is

sought_by : (d b : Bool) (ns : Names) (o : Option Node) → b ≡ is_some o → cond (d && b) (noted_file ns o) [] ≡ cond d (noted_file ns o) []
sought_by true b ns None e = ap (λ (c : Bool). cond c (noted_file ns None) []) e
sought_by true b ns (Some n) e = ap (λ (c : Bool). cond c (noted_file ns (Some n)) []) e
sought_by false b ns o e = refl

-- of the files that are listed as much is noted as of all
pub listed_noted : (t : Tree) (r : Rules) (p : Names) (es : List Entry) → list_answer t p ≡ Ok es → noted_of t (listed r es) p ≡ noted_level t r p
unfolding noted_of noted_level noted_at listed has_git
listed_noted t r p es e =
    let seen : (m : List ℕ) → lists es m ≡ is_some (node_at t (p ++ m ∷ [])) = λ m. ap (λ (fs : List Entry). lists fs m) (entries_are t p es e) ∙ listed_names p t m in
    let git : (r.git && lists es (codes ".git")) ≡ (r.git && is_some (node_at t (p ++ codes ".git" ∷ []))) = ap (λ (b : Bool). r.git && b) (seen (codes ".git")) in
    let own : (d : Bool) (m : List ℕ) → cond (d && lists es m) (noted_file (p ++ m ∷ []) (node_at t (p ++ m ∷ []))) [] ≡ cond d (noted_file (p ++ m ∷ []) (node_at t (p ++ m ∷ []))) [] =
    λ d m. sought_by d (lists es m) (p ++ m ∷ []) (node_at t (p ++ m ∷ [])) (seen m) in
    let excludes : Names = p ++ codes ".git" ∷ codes "info" ∷ codes "exclude" ∷ [] in
    ap₂ (λ (x y : List Noted). x ++ y) (own r.dot (codes ".tokeignore"))
    (ap₂ (λ (x y : List Noted). x ++ y) (own r.dot (codes ".ignore"))
    (ap₂ (λ (x y : List Noted). x ++ y) (own r.git (codes ".gitignore")) (ap (λ (b : Bool). cond b (noted_file excludes (node_at t excludes)) []) git)))

-- a folder that is listed in a known tree leaves no note
pub listed_quiet : (a b : List Note) (place : List ℕ) (l : Listing) → l.unnamed ≡ 0 → l.lost.items ≡ [] → b ≡ a ++ listing_notes place (Some l) → b ≡ a
listed_quiet a b place l all none e =
    e ∙ ap₂ (λ (n : ℕ) (xs : List (List ℕ)). a ++ (unnamed_notes place n ++ lost_notes place xs)) all none ∙ append-nil a

-- what is said so far and what is still to be said stay the same together
pub said_on : (a b : List Note) (xs rest front whole : List Noted) → NotesSay a b xs → front ≡ xs ++ rest → said_in a ++ front ≡ whole → said_in b ++ rest ≡ whole
said_on a b xs rest front whole said first so_far =
    ap (λ (q : List Noted). q ++ rest) said ∙ append_assoc (said_in a) xs rest ∙ ap (λ (q : List Noted). said_in a ++ q) (sym first) ∙ so_far

pub noted_over_pop : (t : Tree) (r : Rules) (found front : List Above) (a : Above)
    → found ≡ front ++ a ∷ [] → noted_over t r found ≡ noted_level t r (names_of a.place) ++ noted_over t r front
noted_over_pop t r found front a is = ap (λ (q : List Above). flat_map (λ b. noted_level t r b.0) (map above_view q)) (turned found front a is)

-- nothing is noted above a root, where its parents aren't obeyed
pub none_above : (t : Tree) (r : Rules) (p : Names) (a b : List Note) → r.parents ≡ false → b ≡ a → NotesSay a b (noted_above t r p)
unfolding noted_above
none_above t r p a b off e =
    says_what a b [] (noted_above t r p) (sym (ap (λ (x : Bool). cond x (flat_map (λ c. noted_level t r c.0) (folders_above [] p)) []) off)) (says_none a b e)

-- those of the folders above a root
pub all_above : (t : Tree) (r : Rules) (p : Names) (found : List Above) (a b c : List Note) → r.parents ≡ true
    → map above_view (reverse found) ≡ folders_above [] p → b ≡ a → NotesSay b c (noted_over t r found) → NotesSay a c (noted_above t r p)
unfolding noted_above
all_above t r p found a b c on is quiet said =
    let whole : List Noted = flat_map (λ x. noted_level t r x.0) (folders_above [] p) in
    says_what a c (noted_over t r found) (noted_above t r p) (ap (flat_map (λ x. noted_level t r x.0)) is ∙ sym (ap (λ (x : Bool). cond x whole []) on))
    (subst (λ (n : List Note). NotesSay n c (noted_over t r found)) quiet said)
