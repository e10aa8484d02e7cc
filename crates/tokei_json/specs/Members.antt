-- What stands under a name of a document. For the clauses of private calls.
use Rattle.std.specs.Prelude.{◌≡◌, ℕ, List, map}
use Rattle.serde_json.specs.Data.{Data}
use Rattle.tokei_json.specs.Document.{language_data}
use Rattle.tokei_json.specs.declared.text.Member.{Member}
use Rattle.tokei_json.specs.declared.text.Member.TheVariants.{Total, Language}
use Rattle.tokei_json.specs.declared.text.Shown.{Shown}
use Rattle.tokei_languages.specs.Seen.{language_of}
use Rattle.tokei_languages.specs.Summaries.{total_of}
use Rattle.tokei_languages.specs.Values.{LanguageValue}
use Rattle.tokei_stats.specs.Reports.{report_of}
use Rattle.tokei_stats.specs.Seen.{sums_of}
use Rattle.tokei_table.specs.Row.{Row}

-- the total of these languages, or a language
abbrev pub member_value : List (ℕ × LanguageValue) → Member → LanguageValue
member_value es Total = total_of es
member_value es (Language l) = language_of l.now

-- the same as data
abbrev pub member_data : List Row → List (ℕ × LanguageValue) → Member → Data
member_data rows es m = language_data rows (member_value es m)

-- what is shown is the value's, but for its children
pub record IsShown (s : Shown) (value : LanguageValue) : Type 0 where
  pub counts : sums_of s.counts ≡ value.counts
  pub inaccurate : s.inaccurate ≡ value.inaccurate
  pub reports : map report_of s.reports.now ≡ value.reports
