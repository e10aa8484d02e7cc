-- When the sums that the rows of files show fit the code's numbers. The rows of reports show their
-- exact sums.
use Rattle.std.specs.Prelude.{List, [], ◌∷◌, ⊤}
use Rattle.tokei_stats.specs.Reports.{ReportValue}
use Rattle.tokei_print.specs.BlobRows.{BlobRowsFit}
use Rattle.tokei_print.specs.LinesFit.{LinesFit}
use Rattle.tokei_stats.specs.Statistics.{blobs, summary}

-- the lines of each language inside are at most the greatest `usize`, and so are those of a file's
-- subtotal
pub record FileBlockFits (report : ReportValue) : Type 0 where
  pub blobs : BlobRowsFit (blobs report.stats)
  pub subtotal : LinesFit (summary report.stats)

-- the sums of each of the files' rows fit
abbrev pub FileBlocksFit : List ReportValue → Type 0
FileBlocksFit [] = ⊤
FileBlocksFit (report ∷ reports) = FileBlockFits report × FileBlocksFit reports
