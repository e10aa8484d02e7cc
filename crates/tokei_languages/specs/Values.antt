-- What contracts see of a language and of languages.
use Rattle.std.specs.Prelude.{ℕ, Bool, true, false, List, [], Option}
use Rattle.std.specs.Ordering.{nat_cmp}
use Rattle.std.specs.BTreeMap.{is_at}
use Rattle.std.specs.List.Sorted.{IsStrictlySortedBy}
use Rattle.std.specs.Map.{keys_of, lookup}
use Rattle.tokei_stats.specs.Statistics.{Counts, no_lines}
pub use Rattle.tokei_stats.specs.Reports.{ReportValue}

-- a language: its counts, its files' reports, those of each language inside, and whether a file
-- couldn't be read
pub record LanguageValue : Type 0 where
  pub counts : Counts
  pub reports : List ReportValue
  pub children : List (ℕ × List ReportValue)
  pub inaccurate : Bool

-- a language of which nothing was counted
abbrev pub empty_language : LanguageValue
empty_language = record { counts = no_lines; reports = []; children = []; inaccurate = false }

-- a file of the language couldn't be read
abbrev pub marked : LanguageValue → LanguageValue
marked language = record language { inaccurate = true }

-- what was counted of a language, if anything was
abbrev pub language_at : List (ℕ × LanguageValue) → ℕ → Option LanguageValue
language_at es language = lookup (is_at (nat_cmp language)) es

-- the keys ascend, so that each stands once
abbrev pub IsInOrder : {S : Type 0} → List (ℕ × S) → Type 0
IsInOrder es = IsStrictlySortedBy nat_cmp (keys_of es)
