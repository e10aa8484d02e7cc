-- The laws of languages.
use Rattle.std.specs.Prelude.{◌≡◌, ℕ, List, Option}
use Rattle.std.specs.List.Sorted.{IsPermutation}
use Rattle.tokei_options.specs.declared.sort.Sort.{Sort}
use Rattle.tokei_languages.specs.AnyOrder.{with_files, DifferInOrderAlone}
use Rattle.tokei_languages.specs.Sorting.{puts_first, stably_sorted, IsStableSort}
use Rattle.tokei_languages.specs.Summaries.{summarised}
use Rattle.tokei_languages.specs.Values.{ReportValue, LanguageValue}

-- summarising twice is once
abbrev pub SummarisingOnceSuffices : Type 0
SummarisingOnceSuffices = (s : LanguageValue) → summarised (summarised s) ≡ summarised s

-- each sort is a stable permutation in order
abbrev pub SortsAreStable : Type 0
SortsAreStable = (sort : Sort) (rs : List ReportValue)
    → IsStableSort (puts_first sort) rs (stably_sorted (puts_first sort) rs)

-- and no other list is
abbrev pub StableSortsAreOne : Type 0
StableSortsAreOne = (sort : Sort) (rs ss : List ReportValue)
    → IsStableSort (puts_first sort) rs ss → ss ≡ stably_sorted (puts_first sort) rs

-- files counted in any order give equal totals, and only the order of reports differs
abbrev pub AnyOrderOfFilesCountsAlike : Type 0
AnyOrderOfFilesCountsAlike = (es : List (ℕ × LanguageValue)) (fs gs : List (ℕ × Option ReportValue))
    → IsPermutation fs gs → DifferInOrderAlone (with_files es fs) (with_files es gs)
