-- The rows of the languages inside the files of another.
use Rattle.std.specs.Prelude.{ℕ, List, [], ◌∷◌, ◌++◌, false, codes, length}
use Rattle.tokei_print.specs.FilesAndCounts.{files_and_counts}
use Rattle.tokei_print.specs.Layouts.{separator_in}
use Rattle.tokei_print.specs.declared.layout.Layout.{Layout}
use Rattle.tokei_print.specs.NameSection.{name_section}
use Rattle.tokei_stats.specs.Reports.{ReportValue, reports_summary}

-- a child's reports and the sums of their summaries; with no report there are none, and no newline
-- either
abbrev pub child_counts : Layout → List ReportValue → List ℕ
child_counts layout [] = []
child_counts layout (report ∷ reports) =
    files_and_counts (separator_in layout) (length (report ∷ reports))
    (reports_summary (report ∷ reports))

-- the row of a language inside the files of another, never marked as inaccurate
abbrev pub child_row : Layout → List ℕ → List ReportValue → List ℕ
child_row layout name reports =
    name_section layout.columns false name (codes " |-") ++ child_counts layout reports

-- a row for each child, in their order
abbrev pub child_rows : Layout → (ℕ → List ℕ) → List (ℕ × List ReportValue) → List ℕ
child_rows layout names [] = []
child_rows layout names (child ∷ children) =
    child_row layout (names child.0) child.1 ++ child_rows layout names children
