-- The order of reports by a column: descending by the count, for files ascending by the name.
use Rattle.std.specs.Prelude.{ℕ, Bool, List, [], ◌∷◌, nat_lt, if◌then◌else◌, map}
use Rattle.std.specs.Cmp.Lexicographic.{slice_cmp}
use Rattle.std.specs.List.Sorted.{IsPermutation, IsSortedBy, IsStableBy}
use Rattle.std.specs.Ordering.{is_lt, nat_cmp}
use Rattle.tokei_stats.specs.Statistics.{lines_of, own}
use Rattle.tokei_options.specs.declared.sort.Sort.{Sort}
use Rattle.tokei_options.specs.declared.sort.Sort.TheVariants.{Blanks, Comments, Code, Files, Lines}
use Rattle.tokei_languages.specs.Values.{ReportValue, LanguageValue}

-- whether the sort puts the first report before the second
abbrev pub puts_first : Sort → ReportValue → ReportValue → Bool
puts_first Blanks report other = nat_lt (own other.stats).blanks (own report.stats).blanks
puts_first Comments report other = nat_lt (own other.stats).comments (own report.stats).comments
puts_first Code report other = nat_lt (own other.stats).code (own report.stats).code
puts_first Files report other = is_lt (slice_cmp nat_cmp report.name other.name)
puts_first Lines report other = nat_lt (lines_of (own other.stats)) (lines_of (own report.stats))

-- with x before the first that it stands before or ties with, where before y x says that y stands
-- before x
abbrev pub placed : {X : Type 0} → (X → X → Bool) → X → List X → List X
placed before x [] = x ∷ []
placed before x (y ∷ ys) = if before y x then (y ∷ placed before x ys) else (x ∷ y ∷ ys)

-- each element in its place; those that tie stay in their order
abbrev pub stably_sorted : {X : Type 0} → (X → X → Bool) → List X → List X
stably_sorted before [] = []
stably_sorted before (x ∷ xs) = placed before x (stably_sorted before xs)

-- ys has the elements of xs, none stands behind one that it goes before, and those that tie stay in
-- their order
pub record IsStableSort {X : Type 0} (before : X → X → Bool) (xs ys : List X) : Type 0 where
  pub permutation : IsPermutation xs ys
  pub sorted : IsSortedBy before ys
  pub stable : IsStableBy before xs ys

-- a language with its reports in the order of the sort
abbrev pub sorted_by : Sort → LanguageValue → LanguageValue
sorted_by sort language = record language
    { reports = stably_sorted (puts_first sort) language.reports }

-- each language with its reports in the order of the sort
abbrev pub sorted_languages : Sort → List (ℕ × LanguageValue) → List (ℕ × LanguageValue)
sorted_languages sort es = map (λ e. (e.0, sorted_by sort e.1)) es
