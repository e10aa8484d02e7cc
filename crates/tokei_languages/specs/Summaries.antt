-- Summaries, which count the texts inside as well, and the total of languages.
use Rattle.std.specs.Prelude.{ℕ, Bool, false, ◌||◌, List, [], ◌∷◌, map}
use Rattle.tokei_stats.specs.Statistics.{Counts, no_lines, plus}
pub use Rattle.tokei_stats.specs.Reports.{reports_summary, children_summary}
use Rattle.tokei_languages.specs.Values.{ReportValue, LanguageValue}

-- a language's counts with those of the texts inside
abbrev pub language_summary : LanguageValue → Counts
language_summary language = plus language.counts (children_summary language.children)

-- a language without children, whose counts have taken them in; reports and mark stay
abbrev pub summarised : LanguageValue → LanguageValue
summarised language = record language { counts = language_summary language; children = [] }

-- the summaries of all languages, added up
abbrev pub languages_summary : List (ℕ × LanguageValue) → Counts
languages_summary [] = no_lines
languages_summary (e ∷ es) = plus (language_summary e.1) (languages_summary es)

-- whether a file of any language couldn't be read
abbrev pub any_inaccurate : List (ℕ × LanguageValue) → Bool
any_inaccurate [] = false
any_inaccurate (e ∷ es) = e.1.inaccurate || any_inaccurate es

-- the reports of each language, an empty list too
abbrev pub reports_by_language : List (ℕ × LanguageValue) → List (ℕ × List ReportValue)
reports_by_language es = map (λ e. (e.0, e.1.reports)) es

-- all languages in one: the summaries added up, the reports by language as children, the marks
-- joined
abbrev pub total_of : List (ℕ × LanguageValue) → LanguageValue
total_of es = record {
  counts = languages_summary es;
  reports = [];
  children = reports_by_language es;
  inaccurate = any_inaccurate es;
}
