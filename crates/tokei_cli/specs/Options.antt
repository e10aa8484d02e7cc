-- The options of the command line, as its parser takes them: the name, the letter and the use of
-- each.
use Rattle.std.specs.Prelude.{ℕ, ◌==◌, Bool, List, [], ◌∷◌, Some, true, false, codes, fold, length}
use Rattle.std.specs.Prelude.{slice_get}
use Rattle.clap.specs.Lexer.{usize_max}
use Rattle.clap.specs.Words.{App, Rule, new_app, new_rule, rule_of, with_rule}
use Rattle.clap.specs.declared.builder.arg.Arg.{Arg}
use Rattle.clap.specs.declared.builder.action.ArgAction.TheVariants.{Append, Count, Set, SetTrue}
use Rattle.clap.specs.declared.builder.value_parser.ValueParser.TheVariants.{Unsigned}
use Rattle.tokei_cli.specs.declared.options.OptionRow.{OptionRow}

-- an option without a value
abbrev pub switch : List ℕ → Rule
switch name = record (new_rule name) { long = Some name; action = Some SetTrue }

-- an option with one value
abbrev pub valued : List ℕ → Rule
valued name = record (new_rule name) { long = Some name; action = Some Set }

-- also by this letter
abbrev pub lettered : List ℕ → Rule → Rule
lettered letter r = record r { short = slice_get letter 0 }

-- refused beside some other option
abbrev pub excluding : Rule → Rule
excluding r = record r { is_free = false }

-- each use adds a value
abbrev pub repeated : Rule → Rule
repeated r = record r { action = Some Append }

-- the options on what the report shows
unfoldable pub report_options : List Rule
report_options =
    excluding (record (lettered (codes "c") (valued (codes "columns"))) {
      parser = Some (Unsigned 0 usize_max);
    })
    ∷ lettered (codes "f") (switch (codes "files"))
    ∷ lettered (codes "C") (switch (codes "compact"))
    ∷ excluding (lettered (codes "n") (valued (codes "num-format")))
    ∷ []

-- the options on formats for other programs, and on the list of languages
unfoldable pub format_options : List Rule
format_options =
    lettered (codes "o") (valued (codes "output"))
    ∷ valued (codes "streaming")
    ∷ excluding (lettered (codes "l") (switch (codes "languages")))
    ∷ []

-- the options on the order of the report, and on which languages it has
unfoldable pub order_options : List Rule
order_options =
    excluding (lettered (codes "s") (valued (codes "sort")))
    ∷ lettered (codes "r") (valued (codes "rsort"))
    ∷ repeated (lettered (codes "t") (valued (codes "types")))
    ∷ []

-- the options on which ignore files are obeyed
unfoldable pub ignore_options : List Rule
ignore_options =
    switch (codes "no-ignore")
    ∷ switch (codes "no-ignore-parent")
    ∷ switch (codes "no-ignore-dot")
    ∷ switch (codes "no-ignore-vcs")
    ∷ []

-- the options on what else is left out, and on files that the program reads
unfoldable pub file_options : List Rule
file_options =
    repeated (lettered (codes "e") (valued (codes "exclude")))
    ∷ switch (codes "hidden")
    ∷ record (lettered (codes "i") (valued (codes "file_input"))) { long = Some (codes "input") }
    ∷ valued (codes "table")
    ∷ []

-- the option on notes, and the files and folders to be counted
unfoldable pub last_options : List Rule
last_options =
    record (lettered (codes "v") (switch (codes "verbose"))) { action = Some Count }
    ∷ record (new_rule (codes "input")) {
      action = Some Append;
      range = Some (record { start_inclusive = 0; end_inclusive = usize_max });
    }
    ∷ []

-- the program's name and version, without options
abbrev pub bare_app : App
bare_app =
    record (new_app (codes "tokei")) {
      top = record (new_app (codes "tokei")).top { has_version = true };
    }

-- an app with more options
abbrev pub with_options : App → List Rule → App
with_options app options = fold with_rule app options

-- the whole command line
unfoldable pub line_app : App
line_app =
    with_options (with_options (with_options (with_options (with_options (with_options bare_app
    report_options) format_options) order_options) ignore_options) file_options) last_options

-- the option of a row of the tables
abbrev pub rule_of_row : OptionRow → Rule
rule_of_row row = record (new_rule row.id.now) {
  long = Some row.long.now;
  short = row.letter;
  action = Some row.action;
  parser = row.parser;
  is_free = length row.others.now == 0;
}

-- the rule of an option, and whether it is one of the commands below too
abbrev pub ruled : Arg → Rule × Bool
ruled a = (rule_of a, a.global)

-- a rule of the whole command line, and of no command below it
abbrev pub local : Rule → Rule × Bool
local r = (r, false)
