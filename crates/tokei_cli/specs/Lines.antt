-- The command line of given words: each member is what the parser's own rules say that they give
-- for an option.
use Rattle.std.specs.Prelude.{◌≡◌, ℕ, List, [], ◌∷◌, Bool, false, Option, None, Some, codes}
use Rattle.std.specs.Prelude.{is_some, map, ok_or, option_map, string_bytes, unwrap_or}
use Rattle.std.specs.Option.{option_map_or, option_or}
use Rattle.std.specs.Str.{bytes_eq}
use Rattle.std.specs.Str.Parse.{ParsesUnsigned}
use Rattle.clap.specs.Words.{Row, all_of, count_of, first_of, matches_of, one_of}
use Rattle.tokei_cli.specs.CommandLines.{inputs_of, excludes_of, file_input_of, table_of}
use Rattle.tokei_cli.specs.Options.{line_app}
use Rattle.tokei_cli.specs.declared.cli.Cli.{Cli}

-- an option without a value is on where its text is true
abbrev pub is_on : Option (List ℕ) → Bool
is_on text = option_map_or (bytes_eq (codes "true")) text false

-- the number of a text, where it writes one of 64 bits
abbrev pub IsNumber : Option (List ℕ) → Option ℕ → Type 0
IsNumber None number = number ≡ None
IsNumber (Some text) number = ParsesUnsigned 64 10 text (ok_or number text)

-- the inputs, of which there is always one: the current folder, where none is named
abbrev pub inputs_given : Option (List (List ℕ)) → List (List ℕ)
inputs_given None = codes "." ∷ []
inputs_given (Some []) = codes "." ∷ []
inputs_given (Some (text ∷ texts)) = text ∷ texts

-- the members of a command line are those of these matches
pub record IsLine (rows : List Row) (line : Cli) : Type 0 where
  pub columns : IsNumber (one_of (codes "columns") rows) line.columns
  pub files : line.files ≡ is_on (one_of (codes "files") rows)
  pub hidden : line.hidden ≡ is_on (one_of (codes "hidden") rows)
  pub no_ignore : line.no_ignore ≡ is_on (one_of (codes "no-ignore") rows)
  pub no_ignore_parent : line.no_ignore_parent ≡ is_on (one_of (codes "no-ignore-parent") rows)
  pub no_ignore_dot : line.no_ignore_dot ≡ is_on (one_of (codes "no-ignore-dot") rows)
  pub no_ignore_vcs : line.no_ignore_vcs ≡ is_on (one_of (codes "no-ignore-vcs") rows)
  pub output : option_map string_bytes line.output ≡ first_of (codes "output") rows
  pub streaming : option_map string_bytes line.streaming ≡ first_of (codes "streaming") rows
  pub print_languages : line.print_languages ≡ is_on (one_of (codes "languages") rows)
  pub sort : option_map string_bytes line.sort
      ≡ option_or (first_of (codes "rsort") rows) (first_of (codes "sort") rows)
  pub sort_reverse : line.sort_reverse ≡ is_some (first_of (codes "rsort") rows)
  pub types : option_map (λ v. map string_bytes v.items) line.types ≡ all_of (codes "types") rows
  pub compact : line.compact ≡ is_on (one_of (codes "compact") rows)
  pub number_format : option_map string_bytes line.number_format
      ≡ first_of (codes "num-format") rows
  pub verbose : line.verbose ≡ count_of (codes "verbose") rows
  pub excludes : excludes_of line ≡ unwrap_or (all_of (codes "exclude") rows) []
  pub file_input : file_input_of line ≡ first_of (codes "file_input") rows
  pub inputs : inputs_of line ≡ inputs_given (all_of (codes "input") rows)
  pub table : table_of line ≡ first_of (codes "table") rows

-- the command line of these words, of which the first is the program's name
abbrev pub IsLineOf : List (List ℕ) → Cli → Type 0
IsLineOf words line = IsLine (matches_of line_app words) line
