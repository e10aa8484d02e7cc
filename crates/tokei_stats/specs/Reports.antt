-- What contracts see of reports, and their summaries.
use Rattle.std.specs.Prelude.{ℕ, List, [], ◌∷◌, map, string_bytes}
use Rattle.std.specs.declared.alloc.Global.{Global}
use Rattle.std.specs.declared.vec.Vec.{Vec}
use Rattle.tokei_stats.specs.Seen.{stats_of}
use Rattle.tokei_stats.specs.Statistics.{Counts, Statistics, no_lines, plus, summary}
use Rattle.tokei_stats.specs.declared.report.Report.{Report}

-- the statistics of a file under its name, in bytes
pub record ReportValue : Type 0 where
  pub name : List ℕ
  pub stats : Statistics

-- a report's name in bytes, and its statistics
abbrev pub report_of : Report → ReportValue
report_of report = record { name = string_bytes report.name; stats = stats_of report.stats }

-- the reports of a list, in their order
abbrev pub reports_of : Vec Report Global → List ReportValue
reports_of v = map report_of v.items

-- the reports by language
abbrev pub children_of : List (ℕ × Vec Report Global) → List (ℕ × List ReportValue)
children_of es = map (λ e. (e.0, reports_of e.1)) es

-- the summaries of reports, added up
abbrev pub reports_summary : List ReportValue → Counts
reports_summary [] = no_lines
reports_summary (r ∷ rs) = plus (summary r.stats) (reports_summary rs)

-- the summaries of all child reports, added up
abbrev pub children_summary : List (ℕ × List ReportValue) → Counts
children_summary [] = no_lines
children_summary (e ∷ es) = plus (reports_summary e.1) (children_summary es)
