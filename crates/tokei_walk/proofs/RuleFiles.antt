-- The rules of a folder, by the ignore files at its joined places.
use Rattle.std.proofs.Common.{◌≡◌, ℕ, ◌&&◌, codes, List, [], ◌∷◌, ◌++◌, Bool, true, false, cond, Option, Some, None, is_some, Result, Ok, Err, refl, sym, ap, ◌∙◌, subst, IfOk}
use Rattle.tokei_folders.specs.declared.fs.Fault.TheVariants.{Refused}
use Rattle.tokei_folders.specs.declared.fs.Kind.TheVariants.{File}
use Rattle.tokei_folders.specs.declared.nodes.Node.{Node}
use Rattle.tokei_folders.specs.declared.nodes.Node.TheVariants.{File as file, Folder as folder}
use Rattle.tokei_folders.specs.Places.{joined}
use Rattle.tokei_folders.specs.Answers.{node_kind, read_answer}
use Rattle.tokei_folders.specs.Tree.{Names, Tree, node_at, names_of}
use Rattle.tokei_folders.proofs.Joining.{names_of-joined}
use Rattle.tokei_ignore.specs.IgnoreFiles.{patterns_of, bad_lines_of}
use Rattle.tokei_walk.specs.Levels.{level_at, ignore_file_at, has_git, patterns_at}
use Rattle.tokei_walk.specs.Notes.{bad_line_notes, ignore_notes}
use Rattle.tokei_walk.specs.declared.kept_file.NoteKind.TheVariants.{UnreadIgnore}
use Rattle.tokei_walk.specs.Sought.{level_of}
use Rattle.tokei_walk.specs.declared.rules_files.Sought.{Sought}
use Rattle.tokei_walk.specs.declared.levels.Level.{Level}
use Rattle.tokei_walk.specs.declared.levels.Rules.{Rules}
use Rattle.tokei_ignore.specs.declared.patterns.Pattern.{Pattern}

-- what is told of a joined place is told of the names
pub told_of_joined : {X E : Type 0} (r : Result X E) (f : Names → X) (on : Bool) (none : X)
    (w p n : List ℕ)
    → on ≡ true → w ≡ joined p n → IfOk r (λ x. x ≡ f (names_of w))
    → IfOk r (λ x. x ≡ cond on (f (names_of p ++ names_of n)) none)
told_of_joined r f on none w p n is_on is h =
    let same = ap names_of is ∙ names_of-joined p n in
    let q : f (names_of w) ≡ cond on (f (names_of p ++ names_of n)) none = ap f same ∙ sym (ap (λ b. cond b (f (names_of p ++ names_of n)) none) is_on) in
    subst (λ (y : _). IfOk r (λ x. x ≡ y)) q h

-- the patterns of a file that is read are those of its content
pub file_read : (o : Option Node) (content : List ℕ) → Some File ≡ node_kind o → Ok content ≡ read_answer o → patterns_of content ≡ patterns_at o
file_read None content k e = absurd (cc)
file_read (Some (folder r)) content k e = absurd (cc)
file_read (Some (file true h b)) content k e = absurd (cc)
file_read (Some (file false h b)) content k e = let same : content ≡ b = cc in ap patterns_of same

-- and its notes those of its bad lines
pub lines_noted : (o : Option Node) (place content : List ℕ) → Some File ≡ node_kind o → Ok content ≡ read_answer o → bad_line_notes place (bad_lines_of content) ≡ ignore_notes place o
lines_noted None place content k e = absurd (cc)
lines_noted (Some (folder r)) place content k e = absurd (cc)
lines_noted (Some (file true h b)) place content k e = absurd (cc)
lines_noted (Some (file false h b)) place content k e = let same : content ≡ b = cc in ap (λ (x : List ℕ). bad_line_notes place (bad_lines_of x)) same

-- one that can't be read has none, and leaves a note
pub file_unread : (o : Option Node) → Some File ≡ node_kind o → Err Refused ≡ read_answer o → [] ≡ patterns_at o
file_unread None k e = absurd (cc)
file_unread (Some (folder r)) k e = absurd (cc)
file_unread (Some (file true h b)) k e = refl
file_unread (Some (file false h b)) k e = absurd (cc)

pub unread_noted : (o : Option Node) (place : List ℕ) → Some File ≡ node_kind o → Err Refused ≡ read_answer o → record { kind = UnreadIgnore; place = place } ∷ [] ≡ ignore_notes place o
unread_noted None place k e = absurd (cc)
unread_noted (Some (folder r)) place k e = absurd (cc)
unread_noted (Some (file true h b)) place k e = refl
unread_noted (Some (file false h b)) place k e = absurd (cc)

-- a kind stands exactly where a node does
pub some_kind : (o : Option Node) → is_some (node_kind o) ≡ is_some o
some_kind None = refl
some_kind (Some n) = refl

abbrev pub level_with : List Pattern → List Pattern → List Pattern → List Pattern → Bool → Level
level_with a b c d g = record { tokeignore = a; ignore = b; gitignore = c; git_exclude = d; git = g }

pub same_level : {a a' b b' c c' d d' : List Pattern} {g g' : Bool} → a ≡ a' → b ≡ b' → c ≡ c' → d ≡ d' → g ≡ g' → level_with a b c d g ≡ level_with a' b' c' d' g'
same_level ea eb ec ed eg = λ i. level_with (ea i) (eb i) (ec i) (ed i) (eg i)

-- each file that is sought has its part of the rules
pub tokeignore_told : (t : Tree) (s : Sought) (p : Names) (a : List Pattern)
    → a ≡ cond s.tokeignore (patterns_at (node_at t (p ++ names_of (codes ".tokeignore")))) [] → a ≡ (level_of t s p).tokeignore
unfolding level_of ignore_file_at names_of
tokeignore_told t s p a e = e

pub ignore_told : (t : Tree) (s : Sought) (p : Names) (a : List Pattern)
    → a ≡ cond s.ignore (patterns_at (node_at t (p ++ names_of (codes ".ignore")))) [] → a ≡ (level_of t s p).ignore
unfolding level_of ignore_file_at names_of
ignore_told t s p a e = e

pub gitignore_told : (t : Tree) (s : Sought) (p : Names) (a : List Pattern)
    → a ≡ cond s.gitignore (patterns_at (node_at t (p ++ names_of (codes ".gitignore")))) [] → a ≡ (level_of t s p).gitignore
unfolding level_of ignore_file_at names_of
gitignore_told t s p a e = e

pub git_exclude_told : (t : Tree) (s : Sought) (p : Names) (a : List Pattern)
    → a ≡ cond s.git (patterns_at (node_at t (p ++ names_of (codes ".git/info/exclude")))) [] → a ≡ (level_of t s p).git_exclude
unfolding level_of ignore_file_at names_of
git_exclude_told t s p a e = e

-- the rules of the files that are sought, part by part
pub level_told : (t : Tree) (s : Sought) (p : Names) (a b c d : List Pattern)
    → a ≡ (level_of t s p).tokeignore → b ≡ (level_of t s p).ignore → c ≡ (level_of t s p).gitignore → d ≡ (level_of t s p).git_exclude
    → record { tokeignore = a; ignore = b; gitignore = c; git_exclude = d; git = s.git } ≡ level_of t s p
unfolding level_of
level_told t s p a b c d ea eb ec ed = same_level ea eb ec ed refl

-- a folder's own rules, where its `.git` is known and each file is sought
pub level_asked : (t : Tree) (r : Rules) (p : Names) (g : Bool) → g ≡ (r.git && is_some (node_at t (p ++ names_of (codes ".git"))))
    → level_of t (record { git = g; tokeignore = r.dot; ignore = r.dot; gitignore = r.git }) p ≡ level_at t r p
unfolding level_of level_at ignore_file_at has_git names_of
level_asked t r p g is =
    same_level refl refl refl (ap (λ (x : Bool). cond x (patterns_at (node_at t (p ++ codes ".git" ∷ codes "info" ∷ codes "exclude" ∷ []))) []) is) is
