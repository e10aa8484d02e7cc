-- The notes of a walk: what it met and passed over.
use Rattle.std.specs.Prelude.{◌≡◌, ◌==◌, ℕ, List, [], ◌∷◌, ◌++◌, cond, if◌then◌else◌, map, replicate, Option, Some, None, Result, Ok, Err}
use Rattle.std.specs.List.{flat_map}
use Rattle.std.specs.Str.{chars}
use Rattle.tokei_folders.specs.declared.fs.Listing.{Listing}
use Rattle.tokei_folders.specs.declared.nodes.Node.{Node}
use Rattle.tokei_folders.specs.declared.nodes.Node.TheVariants.{File as file, Folder as folder}
use Rattle.tokei_folders.specs.Places.{joined}
use Rattle.tokei_walk.specs.declared.kept_file.Note.{Note}
use Rattle.tokei_walk.specs.declared.kept_file.NoteKind.TheVariants.{BadExclude, BadLine, LostEntry, MissingRoot, Unlisted, Unnamed, UnreadIgnore}
use Rattle.tokei_ignore.specs.declared.patterns.Pattern.{Pattern}
use Rattle.tokei_ignore.specs.declared.patterns.PatternError.{PatternError}
use Rattle.tokei_walk.specs.declared.walking.Walk.{Walk}
use Rattle.tokei_ignore.specs.IgnoreFiles.{bad_lines_of}
use Rattle.tokei_ignore.specs.Patterns.{exclude_pattern}

-- what a walk met so far
unfoldable pub notes_of : Walk → List Note
notes_of walk = walk.notes

-- a bad exclude leaves a note
abbrev pub notes_by : List ℕ → Result (Option Pattern) PatternError → List Note
notes_by text (Ok p) = []
notes_by text (Err e) = record { kind = BadExclude; place = text } ∷ []

-- the notes of one exclude: one where its text is no pattern
abbrev pub exclude_notes : List ℕ → List Note
exclude_notes text = notes_by text (exclude_pattern (chars text))

-- the notes of the excludes
unfoldable pub notes_of_excludes : List (List ℕ) → List Note
notes_of_excludes texts = flat_map exclude_notes texts

-- a note of a root that is missing
abbrev pub missing_note : List ℕ → Note
missing_note root = record { kind = MissingRoot; place = root }

-- a note where a folder has names that aren't UTF-8
abbrev pub unnamed_notes : List ℕ → ℕ → List Note
unnamed_notes place count =
    if count == 0 then [] else record { kind = Unnamed; place = place } ∷ []

-- a note of an entry of which it can't be told what stands there
abbrev pub lost_note : List ℕ → List ℕ → Note
lost_note place name = record { kind = LostEntry; place = joined place name }

-- a note of each entry that is lost
abbrev pub lost_notes : List ℕ → List (List ℕ) → List Note
lost_notes place names = map (lost_note place) names

-- the notes of a folder: of the names and the entries that its listing passes over, or that it
-- can't be listed
abbrev pub listing_notes : List ℕ → Option Listing → List Note
listing_notes place None = record { kind = Unlisted; place = place } ∷ []
listing_notes place (Some l) = unnamed_notes place l.unnamed ++ lost_notes place l.lost.items

-- a note of each bad line of an ignore file
abbrev pub bad_line_notes : List ℕ → ℕ → List Note
bad_line_notes place count = replicate count (record { kind = BadLine; place = place })

-- the notes of an ignore file: that it can't be read, or one of each of its bad lines
abbrev pub ignore_notes : List ℕ → Option Node → List Note
ignore_notes place None = []
ignore_notes place (Some (folder r)) = []
ignore_notes place (Some (file r h content)) =
    cond r (record { kind = UnreadIgnore; place = place } ∷ [])
    (bad_line_notes place (bad_lines_of content))

-- notes are added at the end, and none is taken off
pub record Grows (old new : List Note) : Type 0 where
  pub more : List Note
  pub is : new ≡ old ++ more
