-- When the sums that a report shows are at most the greatest `usize`.
use Rattle.std.specs.Prelude.{ℕ, List, Option, None, Some, is_some}
use Rattle.tokei_languages.specs.Sorting.{sorted_languages}
use Rattle.tokei_languages.specs.Values.{LanguageValue}
use Rattle.tokei_options.specs.declared.sort.Sort.{Sort}
use Rattle.tokei_print.specs.ResultsFit.{ResultsFit}
use Rattle.tokei_print.specs.Total.{TotalFits}
use Rattle.tokei_print.specs.Sorted.{listed_by}
use Rattle.tokei_print.specs.declared.style.ReportStyle.{ReportStyle}

-- the sums that the rows of a report show fit
pub record ReportFits (style : ReportStyle)
    (listed languages : List (ℕ × LanguageValue)) : Type 0 where
  pub results : ResultsFit style.files style.compact (is_some style.sort) listed
  pub total : TotalFits languages

-- those of a report of these languages: in the table's order, or in the order of the sort
abbrev ReportFitsBy : Option Sort → ReportStyle → List (ℕ × LanguageValue) → Type 0
ReportFitsBy None style languages = ReportFits style languages languages
ReportFitsBy (Some sort) style languages =
    ReportFits style (listed_by sort style.reverse languages) (sorted_languages sort languages)

-- those of a report of these languages, in the order of its style's sort, if that has one
abbrev pub PrintedReportFits : ReportStyle → List (ℕ × LanguageValue) → Type 0
PrintedReportFits style languages = ReportFitsBy style.sort style languages
