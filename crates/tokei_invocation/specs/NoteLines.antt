-- The lines of the notes that a filter lets through.
use Rattle.std.specs.Prelude.{◌≡◌, ℕ, ◌==◌, List, ◌++◌, Bool, take, map, filter, codes, if◌then◌else◌}
use Rattle.log.specs.Level.{allows}
use Rattle.log.specs.Line.{header_text}
use Rattle.log.specs.declared.level.Level.{Level}
use Rattle.log.specs.declared.level.Level.TheVariants.{Error, Warn}
use Rattle.log.specs.declared.level.LevelFilter.{LevelFilter}
use Rattle.log.specs.declared.level.LevelFilter.TheVariants as level_filter
use Rattle.tokei_walk.specs.declared.kept_file.Note.{Note}
use Rattle.tokei_walk.specs.declared.kept_file.NoteKind.{NoteKind}
use Rattle.tokei_walk.specs.declared.kept_file.NoteKind.TheVariants.{MissingRoot, Unlisted, UnreadIgnore, BadLine, BadExclude, Unnamed, TooDeep, LostEntry, UnreadContent, UnresolvedRoot}

-- what keeps something from being counted that the user named is an error, the rest are warnings
abbrev pub level_of : NoteKind → Level
level_of MissingRoot = Error
level_of Unlisted = Error
level_of UnreadIgnore = Error
level_of BadLine = Warn
level_of BadExclude = Error
level_of Unnamed = Warn
level_of TooDeep = Warn
level_of LostEntry = Error
level_of UnreadContent = Error
level_of UnresolvedRoot = Error

-- what a note says of its place
abbrev pub words_of : NoteKind → List ℕ
words_of MissingRoot = codes "not found"
words_of Unlisted = codes "folder can't be listed"
words_of UnreadIgnore = codes "ignore file can't be read"
words_of BadLine = codes "bad line in ignore file"
words_of BadExclude = codes "exclude is no pattern"
words_of Unnamed = codes "name isn't UTF-8 in folder"
words_of TooDeep = codes "folder too deep"
words_of LostEntry = codes "entry can't be told"
words_of UnreadContent = codes "file can't be read"
words_of UnresolvedRoot = codes "folders above can't be told"

-- the levels that are shown where the option for more notes was given n times
abbrev pub filter_of : ℕ → LevelFilter
filter_of number =
    if number == 1 then level_filter.Warn
    else (if number == 2 then level_filter.Debug
    else (if number == 3 then level_filter.Trace else level_filter.Error))

-- `[ERROR not found] nope`
abbrev pub note_line : Note → List ℕ
note_line n = header_text (level_of n.kind) (words_of n.kind) ++ n.place

-- the filter lets the note through, by its level
abbrev pub is_shown : LevelFilter → Note → Bool
is_shown f n = allows f (level_of n.kind)

-- a line of each note that is shown, in order
abbrev pub lines_of : LevelFilter → List Note → List (List ℕ)
lines_of f ns = map note_line (filter (is_shown f) ns)

-- new is old and then the lines of the first n notes, for some n
abbrev pub IsBeginning : LevelFilter → List (List ℕ) → List (List ℕ) → List Note → Type 0
IsBeginning f old new notes = (n : ℕ) × (new ≡ old ++ lines_of f (take n notes))
