-- Values whose languages are all of a table of so many languages.
use Rattle.std.specs.Prelude.{ℕ, ◌<◌, List, [], ◌∷◌, ⊤}
use Rattle.tokei_languages.specs.Values.{ReportValue, LanguageValue}
pub use Rattle.tokei_count.specs.ReadingLaws.{AreKnown, BlobsAreKnown}

-- each language in the reports is below the limit
abbrev pub ReportsAreKnown : ℕ → List ReportValue → Type 0
ReportsAreKnown limit [] = ⊤
ReportsAreKnown limit (r ∷ rs) = AreKnown limit r.stats × ReportsAreKnown limit rs

-- each child's language is below the limit, and so are those in its reports
abbrev pub ChildrenAreKnown : ℕ → List (ℕ × List ReportValue) → Type 0
ChildrenAreKnown limit [] = ⊤
ChildrenAreKnown limit (e ∷ es) = (e.0 < limit)
    × (ReportsAreKnown limit e.1 × ChildrenAreKnown limit es)

-- each language is below the limit, and so are those inside it
abbrev pub LanguagesAreKnown : ℕ → List (ℕ × LanguageValue) → Type 0
LanguagesAreKnown limit [] = ⊤
LanguagesAreKnown limit (e ∷ es) =
    (e.0 < limit)
    × (ReportsAreKnown limit e.1.reports
    × (ChildrenAreKnown limit e.1.children × LanguagesAreKnown limit es))
