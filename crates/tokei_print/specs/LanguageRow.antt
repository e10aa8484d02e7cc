-- The row of a language.
use Rattle.std.specs.Prelude.{ℕ, List, [], ◌++◌, length}
use Rattle.tokei_languages.specs.Values.{LanguageValue}
use Rattle.tokei_print.specs.FilesAndCounts.{files_and_counts}
use Rattle.tokei_print.specs.Layouts.{separator_in}
use Rattle.tokei_print.specs.declared.layout.Layout.{Layout}
use Rattle.tokei_print.specs.NameSection.{name_section}

-- a language's row: its name, how many reports it has, and its own counts
abbrev pub language_row : Layout → LanguageValue → List ℕ → List ℕ
language_row layout language name =
    name_section layout.columns language.inaccurate name []
    ++ files_and_counts (separator_in layout) (length language.reports) language.counts
