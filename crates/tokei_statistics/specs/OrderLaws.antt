-- The order in which the files of a run are counted doesn't matter but for the order of reports.
use Rattle.std.specs.Prelude.{◌≡◌, ℕ, List}
use Rattle.std.specs.List.Sorted.{IsPermutation}
use Rattle.tokei_languages.specs.Merging.{merged_languages}
use Rattle.tokei_languages.specs.Renewing.{renewed_languages}
use Rattle.tokei_languages.specs.Summaries.{languages_summary, any_inaccurate}
use Rattle.tokei_languages.specs.Values.{LanguageValue}
use Rattle.tokei_walk.specs.declared.kept_file.KeptFile.{KeptFile}
use Rattle.tokei_folders.specs.Tree.{Tree}
use Rattle.tokei_files.specs.Files.{Counting}
use Rattle.tokei_statistics.specs.Runs.{languages_of_run}
use Rattle.tokei_statistics.specs.SameButForOrder.{SameButForOrder}

-- the counts of both, with those of the texts inside, and their marks are the same
pub record HaveEqualTotals (a b : List (ℕ × LanguageValue)) : Type 0 where
  pub counts : languages_summary a ≡ languages_summary b
  pub inaccurate : any_inaccurate a ≡ any_inaccurate b

-- files that are counted in another order give equal totals, whatever was counted before
abbrev pub OrderKeepsTotals : Type 0
OrderKeepsTotals =
    (c : Counting) (t : Tree) (earlier : List (ℕ × LanguageValue)) (files others : List KeptFile)
    → IsPermutation files others
    → HaveEqualTotals (renewed_languages (merged_languages earlier (languages_of_run c t files)))
    (renewed_languages (merged_languages earlier (languages_of_run c t others)))

-- languages that are the same but for the order of reports, before their counts are renewed and
-- after
pub record CountAlike (a b : List (ℕ × LanguageValue)) : Type 0 where
  pub counted : SameButForOrder a b
  pub renewed : SameButForOrder (renewed_languages a) (renewed_languages b)

-- files that are counted in another order give the same languages but for the order of reports,
-- whatever was counted before
abbrev pub OrderKeepsLanguages : Type 0
OrderKeepsLanguages =
    (c : Counting) (t : Tree) (earlier : List (ℕ × LanguageValue)) (files others : List KeptFile)
    → IsPermutation files others
    → CountAlike (merged_languages earlier (languages_of_run c t files))
    (merged_languages earlier (languages_of_run c t others))
