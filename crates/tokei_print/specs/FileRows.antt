-- The rows of a language's files: first those of files with no other language inside, then the
-- others with their blobs.
use Rattle.std.specs.Prelude.{ℕ, List, [], ◌∷◌, ◌++◌, ◌==◌, ◌||◌, Bool, true, false, not, codes, filter, length}
use Rattle.tokei_stats.specs.Reports.{ReportValue}
use Rattle.tokei_print.specs.BlobRows.{blob_rows, name_line, own_row}
use Rattle.tokei_print.specs.declared.layout.Layout.{Layout}
use Rattle.tokei_print.specs.Rules.{newline}
use Rattle.tokei_print.specs.Subtotal.{path_places, subtotal}
use Rattle.tokei_stats.specs.ReportRow.{report_row}
use Rattle.tokei_stats.specs.Shown.{shown}
use Rattle.tokei_stats.specs.Statistics.{Blobs, own, blobs, summary}
use Rattle.tokei_stats.specs.Statistics.Blobs.{none, blob}

-- a report's row of its own counts, under its name as it is shown
abbrev pub file_row : Layout → ReportValue → List ℕ
file_row layout report =
    report_row (path_places layout.columns) (shown report.name) (own report.stats) ++ newline

-- the rows of the reports' own counts, in their order
abbrev pub file_rows : Layout → List ReportValue → List ℕ
file_rows layout [] = []
file_rows layout (report ∷ reports) = file_row layout report ++ file_rows layout reports

-- the rows of a file that holds other languages, of a language of this name and mark
abbrev pub file_block : Layout → (ℕ → List ℕ) → Bool → List ℕ → Bool → ReportValue → List ℕ
file_block layout names inaccurate language first report =
    name_line layout first (shown report.name)
    ++ (own_row layout language report.stats
    ++ (blob_rows layout names inaccurate (blobs report.stats)
    ++ subtotal layout (codes "|- (Total)") (summary report.stats)))

-- the rows of files that hold other languages, one after the other
abbrev pub file_blocks : Layout → (ℕ → List ℕ) → Bool → List ℕ → Bool → List ReportValue → List ℕ
file_blocks layout names inaccurate language first [] = []
file_blocks layout names inaccurate language first (report ∷ reports) =
    file_block layout names inaccurate language first report
    ++ file_blocks layout names inaccurate language false reports

-- no other language stands inside
abbrev pub no_blobs : Blobs → Bool
no_blobs none = true
no_blobs (blob key stats rest) = false

-- a file has a row alone where no other language is inside, and each does where compact
abbrev pub has_row_alone : Bool → ReportValue → Bool
has_row_alone compact report = compact || no_blobs (blobs report.stats)

-- the reports of files whose languages inside are shown
abbrev pub with_blocks : Bool → List ReportValue → List ReportValue
with_blocks compact reports = filter (λ report. not (has_row_alone compact report)) reports

-- the rows of files in this order: those with a row alone first
abbrev pub listed_files : Layout → (ℕ → List ℕ) → Bool → Bool → List ℕ → List ReportValue → List ℕ
listed_files layout names compact inaccurate language reports =
    let alone = filter (has_row_alone compact) reports in
    file_rows layout alone
    ++ file_blocks layout names inaccurate language (length alone == 0)
    (with_blocks compact reports)
