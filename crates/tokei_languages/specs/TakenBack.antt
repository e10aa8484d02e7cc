-- A language as it was before another was added to it.
use Rattle.std.specs.Prelude.{ℕ, List, [], ◌∷◌, take, Option, option_map}
use Rattle.tokei_languages.specs.Maps.{taken_back}
use Rattle.tokei_languages.specs.Values.{ReportValue, LanguageValue}
use Rattle.tokei_languages.specs.declared.before.Before.{Before}

-- the first reports alone, as many as there were
abbrev pub first : Option ℕ → Option (List ReportValue → List ReportValue)
first before = option_map (λ n. take n) before

-- the lists as they were before these grew, the last of them taken back first
abbrev pub all_taken_back : List (ℕ × List ReportValue) → List (ℕ × Option ℕ)
    → List (ℕ × List ReportValue)
all_taken_back es [] = es
all_taken_back es (b ∷ bs) = taken_back (first b.1) (all_taken_back es bs) b.0

-- the language with the counts it had, and its reports and children cut to what they were
abbrev pub restored : Before → LanguageValue → LanguageValue
restored before language = record {
  counts = record { blanks = before.blanks; code = before.code; comments = before.comments };
  reports = take before.reports language.reports;
  children = all_taken_back language.children before.children.items;
  inaccurate = before.inaccurate;
}
