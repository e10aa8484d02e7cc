-- The printed report of languages: how wide it is, and its text.
use Rattle.std.specs.Prelude.{◌≡◌, ℕ, List, [], ◌++◌, Option, None, Some, is_some, nat_lt, if◌then◌else◌}
use Rattle.tokei_languages.specs.Sorting.{sorted_languages}
use Rattle.tokei_languages.specs.Summaries.{any_inaccurate}
use Rattle.tokei_languages.specs.Values.{LanguageValue}
use Rattle.tokei_options.specs.declared.sort.Sort.{Sort}
use Rattle.tokei_print.specs.Heading.{header, warning}
use Rattle.tokei_print.specs.declared.layout.Layout.{Layout}
use Rattle.tokei_languages.specs.Names.{name_in}
use Rattle.tokei_print.specs.Results.{results_text}
use Rattle.tokei_print.specs.Total.{total_text}
use Rattle.tokei_print.specs.Sorted.{listed_by}
use Rattle.tokei_print.specs.declared.style.ReportStyle.{ReportStyle}
use Rattle.tokei_options.specs.Styles.{separator_of}
use Rattle.tokei_table.specs.Row.{Row}

-- the width of a report: 81 at least, and 65,535 at most
abbrev pub columns_of : ℕ → ℕ
columns_of width = if nat_lt width 81 then 81 else (if nat_lt 65535 width then 65535 else width)

-- the note above a report some of whose languages couldn't be counted whole
abbrev pub warning_of : List (ℕ × LanguageValue) → List ℕ
warning_of languages = if any_inaccurate languages then warning else []

-- the rows of a report: languages as they are listed, and the total of all
abbrev pub report_text : Layout → List Row → ReportStyle → List (ℕ × LanguageValue)
    → List (ℕ × LanguageValue) → List ℕ
report_text layout rows style listed languages =
    warning_of languages
    ++ (header layout.columns
    ++ (results_text layout (name_in rows) style.compact (is_some style.sort) listed
    ++ total_text layout languages))

-- a text is the report of languages, listed so, and laid out as its style says
pub record IsReport (rows : List Row) (style : ReportStyle)
    (listed languages : List (ℕ × LanguageValue)) (text : List ℕ) : Type 0 where
  pub layout : Layout
  pub columns : layout.columns ≡ columns_of style.columns
  pub files : layout.list_files ≡ style.files
  pub format : layout.format.separator ≡ separator_of style.numbers
  pub shown : text ≡ report_text layout rows style listed languages

-- a text is the report of languages: in the table's order, or in the order of the sort
abbrev IsReportBy : Option Sort → List Row → ReportStyle → List (ℕ × LanguageValue) → List ℕ
    → Type 0
IsReportBy None rows style languages text = IsReport rows style languages languages text
IsReportBy (Some sort) rows style languages text =
    IsReport rows style (listed_by sort style.reverse languages) (sorted_languages sort languages)
    text

-- a text is the report of languages, in the order of its style's sort, if that has one
abbrev pub IsPrintedReport : List Row → ReportStyle → List (ℕ × LanguageValue) → List ℕ → Type 0
IsPrintedReport rows style languages text = IsReportBy style.sort rows style languages text
