-- The report that a run writes, laid out and sorted as its job and its configuration say.
use Rattle.std.specs.Prelude.{ℕ, List, Option}
use Rattle.std.specs.Option.{option_or}
use Rattle.std.specs.Io.KnownBytes.{Appends}
use Rattle.tokei_config.specs.Seen.{settings_of}
use Rattle.tokei.specs.declared.job.Job.{Job}
use Rattle.tokei_languages.specs.Values.{LanguageValue}
use Rattle.tokei_options.specs.declared.sort.Sort.{Sort}
use Rattle.tokei_print.specs.PrintedReports.{IsPrintedReport}
use Rattle.tokei_print.specs.declared.style.ReportStyle.{ReportStyle}
use Rattle.tokei_table.specs.Row.{Row}

-- the column by which a job sorts, if by any: its own, else the configuration's
abbrev pub sort_of : Job → Option Sort
sort_of job = option_or job.sort (settings_of job.config).sort

-- how a job's report is laid out and sorted
abbrev pub style_of : Job → ReportStyle
style_of job = record {
  columns = job.columns;
  files = job.files;
  compact = job.compact;
  sort = sort_of job;
  reverse = job.reverse;
  numbers = job.numbers;
}

-- behind what stood there a writer has the report of languages, and nothing else
pub record AppendsReport (rows : List Row) (job : Job) (languages : List (ℕ × LanguageValue))
    (old new : Option (List ℕ)) : Type 0 where
  pub text : List ℕ
  pub report : IsPrintedReport rows (style_of job) languages text
  pub appended : Appends old new text
