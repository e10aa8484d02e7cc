-- How deep statistics stand inside one another.
use Rattle.std.specs.Prelude.{ℕ, ◌≤◌, List, [], ◌∷◌, ⊤}
use Rattle.tokei_languages.specs.Values.{ReportValue, LanguageValue}
pub use Rattle.tokei_count.specs.ReadingLaws.{depth as levels, blobs_depth as blob_levels}

-- no report's statistics hold more levels than the limit of blobs
abbrev pub ReportsWithin : ℕ → List ReportValue → Type 0
ReportsWithin limit [] = ⊤
ReportsWithin limit (r ∷ rs) = (levels r.stats ≤ limit) × ReportsWithin limit rs

-- no list of reports has one that holds more levels than the limit of blobs
abbrev pub ListsWithin : ℕ → List (ℕ × List ReportValue) → Type 0
ListsWithin limit [] = ⊤
ListsWithin limit (e ∷ es) = ReportsWithin limit e.1 × ListsWithin limit es

-- no statistics in the languages hold more levels than the limit of blobs
abbrev pub LanguagesWithin : ℕ → List (ℕ × LanguageValue) → Type 0
LanguagesWithin limit [] = ⊤
LanguagesWithin limit (e ∷ es) =
    ReportsWithin limit e.1.reports × (ListsWithin limit e.1.children × LanguagesWithin limit es)
