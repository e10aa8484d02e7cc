-- Values that are of a table and in its order.
use Rattle.std.proofs.Common.{ℕ, ◌<◌, List, [], ◌∷◌, nat_cmp}
use Rattle.std.specs.Bool.{⊤}
use Rattle.std.specs.Map.{keys_of}
use Rattle.std.specs.List.Sorted.{IsStrictlySortedBy}
use Rattle.tokei_languages.specs.Values.{ReportValue, LanguageValue}
use Rattle.tokei_stats.specs.Ordered.{IsOrdered}
use Rattle.tokei_json_laws.specs.InOrder.{ReportsAreInOrder, ListsAreInOrder, ValuesAreInOrder}
use Rattle.tokei_json_laws.specs.Known.{AreKnown, ReportsAreKnown, ChildrenAreKnown, LanguagesAreKnown}

-- each report's statistics are of the first n languages, and in order
abbrev pub ReportsAreSound : ℕ → List ReportValue → Type 0
ReportsAreSound n [] = ⊤
ReportsAreSound n (r ∷ rs) = AreKnown n r.stats × (IsOrdered r.stats × ReportsAreSound n rs)

-- each child is one of the first n languages, and its reports are sound
abbrev pub ChildrenAreSound : ℕ → List (ℕ × List ReportValue) → Type 0
ChildrenAreSound n [] = ⊤
ChildrenAreSound n (e ∷ es) = (e.0 < n) × (ReportsAreSound n e.1 × ChildrenAreSound n es)

-- a language's reports and children are sound, and its children in order
pub record IsSound (n : ℕ) (l : LanguageValue) : Type 0 where
  pub reports : ReportsAreSound n l.reports
  pub children : ChildrenAreSound n l.children
  pub ordered : IsStrictlySortedBy nat_cmp (keys_of l.children)

-- each language is one of the first n, and sound
abbrev pub LanguagesAreSound : ℕ → List (ℕ × LanguageValue) → Type 0
LanguagesAreSound n [] = ⊤
LanguagesAreSound n (e ∷ es) = (e.0 < n) × (IsSound n e.1 × LanguagesAreSound n es)

sound_reports : (n : ℕ) (rs : List ReportValue) → ReportsAreKnown n rs → ReportsAreInOrder rs → ReportsAreSound n rs
sound_reports n [] h k = tt
sound_reports n (r ∷ rs) h k = (h.0, (k.0, sound_reports n rs h.1 k.1))

sound_children : (n : ℕ) (es : List (ℕ × List ReportValue)) → ChildrenAreKnown n es → ListsAreInOrder es → ChildrenAreSound n es
sound_children n [] h k = tt
sound_children n (e ∷ es) h k = (h.0, (sound_reports n e.1 h.1.0 k.0, sound_children n es h.1.1 k.1))

pub sound_languages : (n : ℕ) (es : List (ℕ × LanguageValue)) → LanguagesAreKnown n es → ValuesAreInOrder es → LanguagesAreSound n es
sound_languages n [] h k = tt
sound_languages n (e ∷ es) h k = (
  h.0,
  (
    record { reports = sound_reports n e.1.reports h.1.0 k.0.reports; children = sound_children n e.1.children h.1.1.0 k.0.lists; ordered = k.0.children },
    sound_languages n es h.1.1.1 k.1,
  ),
)
