-- When the sums of a run are at most the greatest `usize`: those of its readings and renewed
-- counts, and those that its output shows.
use Rattle.std.specs.Prelude.{List, Option, None, Some, ⊤}
use Rattle.tokei_earlier.specs.declared.format.Format.{Format}
use Rattle.tokei_earlier.specs.DocumentTexts.{DocumentSumsFit}
use Rattle.tokei_folders.specs.Tree.{Tree}
use Rattle.tokei_languages.specs.Renewing.{RenewalFits}
use Rattle.tokei_statistics.specs.Runs.{RunFits}
use Rattle.tokei_table.specs.Row.{Row}
use Rattle.tokei.specs.declared.job.Job.{Job}
use Rattle.tokei.specs.declared.job.Wanted.{Wanted}
use Rattle.tokei.specs.declared.job.Wanted.TheVariants.{Stream, Document, Report}
use Rattle.tokei.specs.Earlier.{earlier_of}
use Rattle.tokei.specs.Written.{style_of}
use Rattle.tokei_print.specs.ReportSums.{PrintedReportFits}
use Rattle.tokei.specs.Counted.{counting_of, files_of}
use Rattle.tokei.specs.JobStreams.{StreamFits}
use Rattle.tokei.specs.Runs.{languages_after}

-- the readings of a job's files fit, and the renewed counts of all languages
abbrev pub TallyFits : List Row → Job → Tree → Type 0
TallyFits rows job tree = RunFits (counting_of rows job) tree (files_of job tree)
    (earlier_of job.earlier)

-- so do the sums that a document of this format shows
pub record DocumentFits (format : Format) (rows : List Row) (job : Job) (tree : Tree) : Type 0 where
  pub tally : TallyFits rows job tree
  pub shown : DocumentSumsFit format (languages_after rows job tree)

-- those of a run that writes a report
pub record RunReportFits (rows : List Row) (job : Job) (tree : Tree) : Type 0 where
  pub tally : TallyFits rows job tree
  pub shown : PrintedReportFits (style_of job) (languages_after rows job tree)

-- those of a run that writes a document in the format, or else a report
abbrev pub CountedFits : Option Format → List Row → Job → Tree → Type 0
CountedFits (Some format) rows job tree = DocumentFits format rows job tree
CountedFits None rows job tree = RunReportFits rows job tree

-- those of a run
abbrev pub Fits : Wanted → List Row → Job → Tree → Type 0
Fits (Document format) rows job tree = DocumentFits format rows job tree
Fits Report rows job tree = RunReportFits rows job tree
Fits (Stream form) rows job tree = StreamFits rows job tree

-- what a run has tested of earlier results: a stream, which doesn't show them, renews their counts
-- all the same
abbrev pub EarlierFits : Wanted → Job → Type 0
EarlierFits (Document format) job = ⊤
EarlierFits Report job = ⊤
EarlierFits (Stream form) job = RenewalFits (earlier_of job.earlier)
