-- Languages that are the same but for the order of their reports.
use Rattle.std.specs.Prelude.{◌≡◌, ℕ, List, [], ◌∷◌, ⊤}
use Rattle.std.specs.List.Sorted.{IsPermutation}
use Rattle.tokei_languages.specs.Values.{LanguageValue}

-- entry by entry the same key, and values that are alike
abbrev pub AreAlike : {S : Type 0} → (S → S → Type 0) → List (ℕ × S) → List (ℕ × S) → Type 0
AreAlike like [] [] = ⊤
AreAlike like [] (f ∷ fs) = ⊥
AreAlike like (e ∷ es) [] = ⊥
AreAlike like (e ∷ es) (f ∷ fs) = (e.0 ≡ f.0) × (like e.1 f.1 × AreAlike like es fs)

-- equal counts and marks, the same reports in any order, and the same languages inside, each with
-- the same reports in any order
pub record LanguagesAlike (language other : LanguageValue) : Type 0 where
  pub counts : language.counts ≡ other.counts
  pub reports : IsPermutation language.reports other.reports
  pub children : AreAlike IsPermutation language.children other.children
  pub inaccurate : language.inaccurate ≡ other.inaccurate

-- the same languages, each of them alike
abbrev pub SameButForOrder : List (ℕ × LanguageValue) → List (ℕ × LanguageValue) → Type 0
SameButForOrder es fs = AreAlike LanguagesAlike es fs
