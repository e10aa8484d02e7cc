-- Languages as JSON data, beside their total. Languages stand under their names, and members in
-- byte order.
use Rattle.std.specs.Prelude.{ℕ, List, codes}
use Rattle.serde_json.specs.Data.{Data, boolean, object, no_members, member, put}
use Rattle.tokei_languages.specs.Names.{name_in}
pub use Rattle.tokei_json.specs.ReportData.{count, statistics_data, blobs_data, report_data}
pub use Rattle.tokei_json.specs.ReportData.{line_data, reports_data, named_data}
use Rattle.tokei_languages.specs.Summaries.{total_of}
use Rattle.tokei_languages.specs.Values.{LanguageValue}
use Rattle.tokei_table.specs.Row.{Row}

-- a language: its counts, its children and reports, and whether it is inaccurate
abbrev pub language_data : List Row → LanguageValue → Data
language_data rows language = object
    (member (codes "blanks") (count language.counts.blanks)
    (member (codes "children") (object
    (named_data rows (reports_data rows) language.children no_members))
    (member (codes "code") (count language.counts.code)
    (member (codes "comments") (count language.counts.comments)
    (member (codes "inaccurate") (boolean language.inaccurate)
    (member (codes "reports") (reports_data rows language.reports) no_members))))))

-- languages beside their total
unfoldable pub document : List Row → List (ℕ × LanguageValue) → Data
document rows es = object
    (put (codes "Total") (language_data rows (total_of es))
    (named_data rows (language_data rows) es no_members))
