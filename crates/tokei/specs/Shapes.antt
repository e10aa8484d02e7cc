-- The shape of what a run writes, whatever the folders hold and whether they tell a tree: the document
-- or the report of some languages, or the rows of some reports below their heading.
use Rattle.std.specs.Prelude.{◌≡◌, ◌⊎◌, ℕ, List, [], ◌++◌, Option, Some, None}
use Rattle.std.specs.List.{flat_map}
use Rattle.std.specs.Io.KnownBytes.{Appends}
use Rattle.tokei_earlier.specs.declared.format.Format.{Format}
use Rattle.tokei_languages.specs.Values.{LanguageValue}
use Rattle.tokei_options.specs.declared.streaming.Streaming.{Streaming}
use Rattle.tokei_stats.specs.Reports.{ReportValue}
use Rattle.tokei.specs.declared.job.Job.{Job}
use Rattle.tokei.specs.declared.job.Wanted.{Wanted}
use Rattle.tokei.specs.declared.job.Wanted.TheVariants.{Stream, Document, Report}
use Rattle.tokei.specs.Rows.{heading_of, report_row}
use Rattle.tokei.specs.Texts.{WritesText}
use Rattle.tokei_table.specs.Row.{Row}

-- behind what stood there a writer has the text of some languages, and nothing else
pub record WritesSome (format : Option Format) (rows : List Row) (job : Job)
    (old new : Option (List ℕ)) : Type 0 where
  pub languages : List (ℕ × LanguageValue)
  pub written : WritesText format rows job languages old new

-- the rows of reports, each in its language
abbrev pub rows_text : Streaming → List Row → List (ℕ × ReportValue) → List ℕ
rows_text form rows reports = flat_map (λ r. report_row form rows r.0 r.1) reports

-- behind what stood there a writer has this text and the rows of some reports, and nothing else
pub record WritesSomeBelow (front : List ℕ) (form : Streaming) (rows : List Row)
    (old new : Option (List ℕ)) : Type 0 where
  pub reports : List (ℕ × ReportValue)
  pub appended : Appends old new (front ++ rows_text form rows reports)

-- rows alone
abbrev pub WritesSomeRows : Streaming → List Row → Option (List ℕ) → Option (List ℕ) → Type 0
WritesSomeRows form rows old new = WritesSomeBelow [] form rows old new

-- rows below the heading of a stream
abbrev pub WritesSomeStream : Streaming → List Row → Option (List ℕ) → Option (List ℕ) → Type 0
WritesSomeStream form rows old new = WritesSomeBelow (heading_of form) form rows old new

-- what a run has written
abbrev pub HasShape : Wanted → List Row → Job → Option (List ℕ) → Option (List ℕ) → Type 0
HasShape (Document format) rows job old new = WritesSome (Some format) rows job old new
HasShape Report rows job old new = WritesSome None rows job old new
HasShape (Stream form) rows job old new = WritesSomeStream form rows old new

-- what a run that memory or a sum ended has written: nothing, or the first rows of a stream
abbrev pub HasBegun : Wanted → List Row → Option (List ℕ) → Option (List ℕ) → Type 0
HasBegun (Document format) rows old new = new ≡ old
HasBegun Report rows old new = new ≡ old
HasBegun (Stream form) rows old new = (new ≡ old) ⊎ WritesSomeStream form rows old new
