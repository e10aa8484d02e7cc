-- A stream: a row for each file that counts in a language and can be read, in the order of the
-- walk, and nothing behind the last one.
use Rattle.std.specs.Prelude.{ℕ, List, [], ◌++◌, Option, None, Some, option_and_then, option_map}
use Rattle.std.specs.List.{flat_map}
use Rattle.tokei_folders.specs.Tree.{Tree}
use Rattle.tokei_stats.specs.Reports.{ReportValue}
use Rattle.tokei_options.specs.declared.streaming.Streaming.{Streaming}
use Rattle.tokei_files.specs.ContentStatistics.{stats_at}
use Rattle.tokei_files.specs.Files.{Counting, language_of_file}
use Rattle.tokei_table.specs.Row.{Row}
use Rattle.tokei.specs.Rows.{heading_of, report_row}
use Rattle.tokei_walk.specs.declared.kept_file.KeptFile.{KeptFile}

-- the report of a file in a language, where the file can be read
abbrev pub report_in : Counting → Tree → KeptFile → ℕ → Option (ℕ × ReportValue)
report_in counting tree file language =
    option_map (λ s. (language, record { name = file.path; stats = s }))
    (stats_at tree counting.rows counting.docs language file.place)

-- the report of a file beside its language, where it counts in one and can be read
unfoldable pub report_of_file : Counting → Tree → KeptFile → Option (ℕ × ReportValue)
report_of_file counting tree file =
    option_and_then (report_in counting tree file) (language_of_file counting tree file)

-- the row of a report, if there is one
abbrev pub row_of : Streaming → List Row → Option (ℕ × ReportValue) → List ℕ
row_of form rows None = []
row_of form rows (Some report) = report_row form rows report.0 report.1

-- the row of a file
abbrev pub file_row : Streaming → List Row → Counting → Tree → KeptFile → List ℕ
file_row form rows counting tree file = row_of form rows (report_of_file counting tree file)

-- the rows of files, in their order
abbrev pub rows_of : Streaming → List Row → Counting → Tree → List KeptFile → List ℕ
rows_of form rows counting tree files = flat_map (file_row form rows counting tree) files

-- the rows below their heading
abbrev pub stream_text : Streaming → List Row → Counting → Tree → List KeptFile → List ℕ
stream_text form rows counting tree files = heading_of form ++ rows_of form rows counting tree files
