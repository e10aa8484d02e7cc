-- Adding a report to a language, a language to another, and languages to others.
use Rattle.std.specs.Prelude.{ℕ, ◌||◌, List, [], ◌∷◌, ◌++◌, Option, None, Some, ⊤}
use Rattle.tokei_stats.specs.Overflow.{CountsFit}
use Rattle.tokei_stats.specs.Statistics.{Blobs, plus, blobs}
use Rattle.tokei_stats.specs.Statistics.Blobs.{none, blob}
use Rattle.tokei_languages.specs.Maps.{merged}
use Rattle.tokei_languages.specs.Values.{ReportValue, LanguageValue, language_at}

-- the reports of either, by language, the left one's first
abbrev pub appended : List (ℕ × List ReportValue) → List (ℕ × List ReportValue)
    → List (ℕ × List ReportValue)
appended a b = merged (λ rs more. rs ++ more) a b

-- a report of this name for each blob
abbrev pub blob_reports : List ℕ → Blobs → List (ℕ × List ReportValue)
blob_reports name none = []
blob_reports name (blob k s rest) =
    (k, record { name = name; stats = s } ∷ []) ∷ blob_reports name rest

-- with one report more, and a child report for each of its blobs; the counts stay until they are
-- renewed
abbrev pub with_report : LanguageValue → ReportValue → LanguageValue
with_report language report = record language {
  reports = language.reports ++ report ∷ [];
  children = appended language.children (blob_reports report.name (blobs report.stats));
}

-- both added, the left one's reports first
abbrev pub merged_language : LanguageValue → LanguageValue → LanguageValue
merged_language language other = record {
  counts = plus language.counts other.counts;
  reports = language.reports ++ other.reports;
  children = appended language.children other.children;
  inaccurate = language.inaccurate || other.inaccurate;
}

-- every language of either; one of both is added
abbrev pub merged_languages : List (ℕ × LanguageValue) → List (ℕ × LanguageValue)
    → List (ℕ × LanguageValue)
merged_languages a b = merged merged_language a b

-- the counts of a language that is there fit with those that are added
abbrev pub FitAt : Option LanguageValue → LanguageValue → Type 0
FitAt None language = ⊤
FitAt (Some s) language = CountsFit (plus s.counts language.counts)

-- each sum of counts that merging takes is at most the greatest `usize`
abbrev pub MergeFits : List (ℕ × LanguageValue) → List (ℕ × LanguageValue) → Type 0
MergeFits es [] = ⊤
MergeFits es (f ∷ fs) = FitAt (language_at es f.0) f.1 × MergeFits (merged_languages es (f ∷ [])) fs
