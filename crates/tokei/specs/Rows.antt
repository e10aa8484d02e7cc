-- The rows of a stream: a heading, where its form has one, and the row of each report.
use Rattle.std.specs.Prelude.{ℕ, List, [], ◌++◌}
use Rattle.serde_json.specs.Written.{compact_text}
use Rattle.tokei_json.specs.ReportData.{line_data}
use Rattle.tokei_stats.specs.Reports.{ReportValue}
use Rattle.tokei_languages.specs.Names.{name_in}
use Rattle.tokei_print.specs.StreamRows.{stream_heading, stream_row}
use Rattle.tokei_print.specs.Rules.{newline}
use Rattle.tokei_options.specs.declared.streaming.Streaming.{Streaming}
use Rattle.tokei_options.specs.declared.streaming.Streaming.TheVariants.{Simple, Json}
use Rattle.tokei_stats.specs.Statistics.{own}
use Rattle.tokei_table.specs.Row.{Row}

-- what stands above the rows
abbrev pub heading_of : Streaming → List ℕ
heading_of Simple = stream_heading
heading_of Json = []

-- the row of a file's report, under the name of its language
abbrev pub report_row : Streaming → List Row → ℕ → ReportValue → List ℕ
report_row Simple rows language report =
    stream_row (name_in rows language) report.name (own report.stats)
report_row Json rows language report = compact_text (line_data rows language report) ++ newline
