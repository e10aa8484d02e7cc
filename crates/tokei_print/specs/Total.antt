-- The row of all languages together.
use Rattle.std.specs.Prelude.{ℕ, ◌+◌, ◌<◌, ◌^◌, List, [], ◌∷◌, ◌++◌, codes, length}
use Rattle.tokei_languages.specs.Summaries.{any_inaccurate, languages_summary, reports_by_language}
use Rattle.tokei_languages.specs.Values.{ReportValue, LanguageValue}
use Rattle.tokei_print.specs.LinesFit.{LinesFit}
use Rattle.tokei_print.specs.FilesAndCounts.{files_and_counts}
use Rattle.tokei_print.specs.Layouts.{separator_in}
use Rattle.tokei_print.specs.declared.layout.Layout.{Layout}
use Rattle.tokei_print.specs.NameSection.{name_section}
use Rattle.tokei_print.specs.Rules.{row}

-- how many reports there are of all languages
abbrev pub report_count : List (ℕ × List ReportValue) → ℕ
report_count [] = 0
report_count (reports ∷ rest) = length reports.1 + report_count rest

-- the row of the total, which counts the files of all languages
abbrev pub total_row : Layout → List (ℕ × LanguageValue) → List ℕ
total_row layout languages =
    name_section layout.columns (any_inaccurate languages) (codes "Total") []
    ++ files_and_counts
    (separator_in layout)
    (report_count (reports_by_language languages))
    (languages_summary languages)

-- the row of the total between two rows of strokes
abbrev pub total_text : Layout → List (ℕ × LanguageValue) → List ℕ
total_text layout languages =
    row layout.columns ++ (total_row layout languages ++ row layout.columns)

-- the sums that the row shows are at most the greatest `usize`
pub record TotalFits (languages : List (ℕ × LanguageValue)) : Type 0 where
  pub files : report_count (reports_by_language languages) < 2 ^ 64
  pub lines : LinesFit (languages_summary languages)
