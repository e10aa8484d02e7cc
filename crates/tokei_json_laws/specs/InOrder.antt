-- Languages in the table's order, at every depth, as all values are.
use Rattle.std.specs.Prelude.{ℕ, List, [], ◌∷◌, ⊤}
use Rattle.std.specs.Ordering.{nat_cmp}
use Rattle.std.specs.Map.{keys_of}
use Rattle.std.specs.List.Sorted.{IsStrictlySortedBy}
use Rattle.tokei_languages.specs.Values.{ReportValue, LanguageValue}
use Rattle.tokei_stats.specs.Ordered.{IsOrdered}

-- the blobs of each report stand in the table's order
abbrev pub ReportsAreInOrder : List ReportValue → Type 0
ReportsAreInOrder [] = ⊤
ReportsAreInOrder (r ∷ rs) = IsOrdered r.stats × ReportsAreInOrder rs

-- the reports of each child
abbrev pub ListsAreInOrder : List (ℕ × List ReportValue) → Type 0
ListsAreInOrder [] = ⊤
ListsAreInOrder (e ∷ es) = ReportsAreInOrder e.1 × ListsAreInOrder es

-- a language's reports, those of its children, and the children
pub record LanguageIsInOrder (language : LanguageValue) : Type 0 where
  pub reports : ReportsAreInOrder language.reports
  pub lists : ListsAreInOrder language.children
  pub children : IsStrictlySortedBy nat_cmp (keys_of language.children)

-- what each language holds stands in the table's order
abbrev pub ValuesAreInOrder : List (ℕ × LanguageValue) → Type 0
ValuesAreInOrder [] = ⊤
ValuesAreInOrder (e ∷ es) = LanguageIsInOrder e.1 × ValuesAreInOrder es

-- the languages, and what each of them holds
pub record LanguagesAreInOrder (es : List (ℕ × LanguageValue)) : Type 0 where
  pub languages : IsStrictlySortedBy nat_cmp (keys_of es)
  pub values : ValuesAreInOrder es
