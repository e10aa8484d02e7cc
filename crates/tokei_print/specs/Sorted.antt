-- The order of languages in a report that is sorted: descending by the count of a column, those
-- with equal counts in the table's order, or all of it reversed.
use Rattle.std.specs.Prelude.{ℕ, Bool, List, length, nat_lt, reverse, if◌then◌else◌}
use Rattle.tokei_languages.specs.Sorting.{sorted_languages, stably_sorted}
use Rattle.tokei_languages.specs.Values.{LanguageValue}
use Rattle.tokei_options.specs.declared.sort.Sort.{Sort}
use Rattle.tokei_options.specs.declared.sort.Sort.TheVariants.{Blanks, Comments, Code, Files, Lines}
use Rattle.tokei_stats.specs.Statistics.{lines_of}

-- the count of a language by which a sort goes; for files their number
abbrev pub count_of : Sort → LanguageValue → ℕ
count_of Blanks language = language.counts.blanks
count_of Comments language = language.counts.comments
count_of Code language = language.counts.code
count_of Files language = length language.reports
count_of Lines language = lines_of language.counts

-- whether the sort puts the first language before the second
abbrev pub language_goes_first : Sort → LanguageValue → LanguageValue → Bool
language_goes_first sort language other = nat_lt (count_of sort other) (count_of sort language)

-- languages in the order of the sort
abbrev pub languages_sorted : Sort → List (ℕ × LanguageValue) → List (ℕ × LanguageValue)
languages_sorted sort languages = stably_sorted (λ a b. language_goes_first sort a.1 b.1) languages

-- the order of the sort, or all of it reversed
abbrev pub in_list_order : Sort → Bool → List (ℕ × LanguageValue) → List (ℕ × LanguageValue)
in_list_order sort reversed languages =
    if reversed then reverse (languages_sorted sort languages) else languages_sorted sort languages

-- languages as a sorted report lists them, the reports of each sorted too
abbrev pub listed_by : Sort → Bool → List (ℕ × LanguageValue) → List (ℕ × LanguageValue)
listed_by sort reversed languages = in_list_order sort reversed (sorted_languages sort languages)
