-- How notes are shown: with why their places gave no answer, where that is known, and with what
-- controls a terminal escaped.
use Rattle.std.specs.Prelude.{◌≡◌, ℕ, ◌==◌, List, [], ◌∷◌, ◌++◌, Bool, true, false, codes, if◌then◌else◌, length, ⊤}
use Rattle.tokei_stats.specs.Shown.{shown}
use Rattle.tokei_walk.specs.declared.kept_file.Note.{Note}
use Rattle.tokei_walk.specs.declared.kept_file.NoteKind.{NoteKind}
use Rattle.tokei_walk.specs.declared.kept_file.NoteKind.TheVariants.{MissingRoot, Unlisted, UnreadIgnore, BadLine, BadExclude, Unnamed, TooDeep, LostEntry, UnreadContent, UnresolvedRoot}

-- a text, with words behind it, where there are some
abbrev pub followed : List ℕ → List ℕ → List ℕ
followed text words = if length words == 0 then text else text ++ (codes ": " ++ shown words)

-- a note of a place that is shown so
abbrev pub shown_note : Note → Note
shown_note n = record n { place = shown n.place }

-- the same, with words behind the place
abbrev pub shown_with : List ℕ → Note → Note
shown_with words n = record n { place = followed (shown n.place) words }

-- a note of this kind says that a call on its place was refused
abbrev pub is_of_refusal : NoteKind → Bool
is_of_refusal MissingRoot = true
is_of_refusal Unlisted = true
is_of_refusal UnreadIgnore = true
is_of_refusal BadLine = false
is_of_refusal BadExclude = false
is_of_refusal Unnamed = false
is_of_refusal TooDeep = false
is_of_refusal LostEntry = true
is_of_refusal UnreadContent = true
is_of_refusal UnresolvedRoot = true

-- a note is shown as another, which has words behind its place only where a call there was refused
pub record IsShown (n s : Note) : Type 0 where
  pub words : List ℕ
  pub none : is_of_refusal n.kind ≡ false → words ≡ []
  pub is : s ≡ shown_with words n

-- notes are shown as others, each in its turn
abbrev pub AreShown : List Note → List Note → Type 0
AreShown [] [] = ⊤
AreShown [] (s ∷ ss) = ⊥
AreShown (n ∷ ns) [] = ⊥
AreShown (n ∷ ns) (s ∷ ss) = IsShown n s × AreShown ns ss
