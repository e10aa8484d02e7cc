-- Files counted in another order: what stays.
use Rattle.std.specs.Prelude.{◌≡◌, ℕ, ◌+◌, ◌==◌, Bool, List, [], ◌∷◌, Option, None, Some, if◌then◌else◌, count_by}
use Rattle.tokei_stats.specs.Statistics.{Counts}
use Rattle.tokei_languages.specs.Maps.{put_at}
use Rattle.tokei_languages.specs.Merging.{with_report}
use Rattle.tokei_languages.specs.Renewing.{renewed_languages}
use Rattle.tokei_languages.specs.Summaries.{any_inaccurate, languages_summary}
use Rattle.tokei_languages.specs.Values.{ReportValue, LanguageValue, empty_language, marked}

-- a language with one file more: its report, or the mark where it couldn't be read
abbrev pub with_file : LanguageValue → Option ReportValue → LanguageValue
with_file language None = marked language
with_file language (Some r) = with_report language r

-- the languages with these files more, each under its language
abbrev pub with_files : List (ℕ × LanguageValue) → List (ℕ × Option ReportValue)
    → List (ℕ × LanguageValue)
with_files es [] = es
with_files es (f ∷ fs) =
    with_files (put_at (λ s. with_file s f.1) (with_file empty_language f.1) es f.0) fs

-- how many reports of a language pass a test
abbrev pub passing_reports : ℕ → (ReportValue → Bool) → List (ℕ × LanguageValue) → ℕ
passing_reports language test [] = 0
passing_reports language test (e ∷ es) =
    (if language == e.0 then count_by test e.1.reports else 0) + passing_reports language test es

-- equal totals, and the same reports of each language, whatever their order
pub record DifferInOrderAlone (es fs : List (ℕ × LanguageValue)) : Type 0 where
  pub totals : languages_summary (renewed_languages es) ≡ languages_summary (renewed_languages fs)
  pub marks : any_inaccurate es ≡ any_inaccurate fs
  pub reports : (k : ℕ) (test : ReportValue → Bool)
      → passing_reports k test es ≡ passing_reports k test fs
