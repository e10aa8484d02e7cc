-- The lines of what was passed over.
use Rattle.std.specs.Prelude.{ℕ, List, [], ◌∷◌, ◌++◌, flat_map}
use Rattle.tokei_cli.specs.declared.cli.Cli.{Cli}
use Rattle.tokei_config.specs.declared.flaws.Flaw.{Flaw}
use Rattle.tokei_invocation.specs.FlawLines.{flaw_lines}
use Rattle.tokei_invocation.specs.NoteLines.{filter_of, lines_of}
use Rattle.tokei_invocation.specs.Types.{type_lines}
use Rattle.tokei_table.specs.Bytes.{newline}
use Rattle.tokei_table.specs.Row.{Row}
use Rattle.tokei_walk.specs.declared.kept_file.Note.{Note}

-- a line and its newline
abbrev pub ended : List ℕ → List ℕ
ended line = line ++ newline ∷ []

-- the lines that a command line shows: of notes as they are shown, of configuration files that
-- count as empty, and of its own words that name no language
abbrev pub passed_lines : List Row → Cli → List Note → List Flaw → List (List ℕ)
passed_lines rows line notes flaws =
    (lines_of (filter_of line.verbose) notes ++ flaw_lines line flaws)
    ++ type_lines rows line

-- these lines as a text
abbrev pub passed_text : List Row → Cli → List Note → List Flaw → List ℕ
passed_text rows line notes flaws = flat_map ended (passed_lines rows line notes flaws)
