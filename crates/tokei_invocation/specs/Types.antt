-- The words of the option for types that name no language, as lines of a log.
use Rattle.std.specs.Prelude.{ℕ, ◌==◌, List, [], ◌∷◌, ◌++◌, Bool, filter, flat_map, is_none, length, map}
use Rattle.std.specs.Prelude.{codes, if◌then◌else◌, nat_lt, string_bytes}
use Rattle.std.specs.List.{slice_split}
use Rattle.std.specs.Option.{option_map_or}
use Rattle.log.specs.Level.{allows}
use Rattle.log.specs.Line.{header_text}
use Rattle.log.specs.declared.level.Level.TheVariants.{Warn}
use Rattle.tokei_cli.specs.Overriding.{comma, language_named}
use Rattle.tokei_cli.specs.declared.cli.Cli.{Cli}
use Rattle.tokei_invocation.specs.NoteLines.{filter_of}
use Rattle.tokei_stats.specs.Shown.{shown}
use Rattle.tokei_table.specs.Bytes.{trim}
use Rattle.tokei_table.specs.Row.{Row}

-- blanks stand at an end of the text
abbrev pub has_outer_blanks : List ℕ → Bool
has_outer_blanks text = nat_lt (length (trim text)) (length text)

-- what is said of a piece that names no language
abbrev pub words_of_piece : List ℕ → List ℕ
words_of_piece piece =
    if has_outer_blanks piece then codes "no language with these blanks"
    else codes "no such language"

-- the byte of an apostrophe, `'`
abbrev pub apostrophe : ℕ
apostrophe = 39

-- a text between apostrophes
abbrev pub quoted : List ℕ → List ℕ
quoted text = apostrophe ∷ (text ++ apostrophe ∷ [])

-- `[WARN  no such language] 'nope'`
abbrev pub piece_line : List ℕ → List ℕ
piece_line piece = header_text Warn (words_of_piece piece) ++ quoted (shown piece)

-- a piece names no language of the table
abbrev pub is_unnamed : List Row → List ℕ → Bool
is_unnamed rows piece = is_none (language_named rows piece)

-- the pieces of a word, between its commas, that name none
abbrev pub unnamed_in : List Row → List ℕ → List (List ℕ)
unnamed_in rows word = filter (is_unnamed rows) (slice_split (λ b. b == comma) word)

-- those of all words
abbrev pub unnamed_of : List Row → List (List ℕ) → List (List ℕ)
unnamed_of rows words = flat_map (unnamed_in rows) words

-- those of a command line
abbrev pub unnamed_types : List Row → Cli → List (List ℕ)
unnamed_types rows line =
    option_map_or (λ v. unnamed_of rows (map string_bytes v.items)) line.types []

-- a line of each, where warnings are shown
abbrev pub type_lines : List Row → Cli → List (List ℕ)
type_lines rows line =
    if allows (filter_of line.verbose) Warn then map piece_line (unnamed_types rows line) else []
