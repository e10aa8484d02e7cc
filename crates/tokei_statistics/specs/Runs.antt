-- The languages of a run: what the kept files count, each in the language that its path has.
use Rattle.std.specs.Prelude.{◌≡◌, ℕ, List, [], ◌∷◌, take, Option, Some, None}
use Rattle.tokei_languages.specs.Renewing.{renewed_languages, RenewalFits}
use Rattle.tokei_languages.specs.Values.{LanguageValue, empty_language, marked}
use Rattle.tokei_stats.specs.Statistics.{Statistics}
use Rattle.tokei_walk.specs.declared.kept_file.KeptFile.{KeptFile}
use Rattle.tokei_folders.specs.Tree.{Tree}
use Rattle.tokei_files.specs.ContentStatistics.{stats_at}
use Rattle.tokei_files.specs.Files.{Counting, ReadingsFit, language_of_file}
use Rattle.tokei_languages.specs.Merging.{merged_languages, with_report}

-- what a language has of a file: its report under the path that is shown, and one for each blob; of
-- a file that can't be read the mark alone
abbrev pub language_from : List ℕ → Option Statistics → LanguageValue
language_from path None = marked empty_language
language_from path (Some s) = with_report empty_language (record { name = path; stats = s })

-- the languages of a file that has this one
abbrev pub languages_in : Counting → Tree → KeptFile → Option ℕ → List (ℕ × LanguageValue)
languages_in counting tree file None = []
languages_in counting tree file (Some l) =
    (l, language_from file.path (stats_at tree counting.rows counting.docs l file.place)) ∷ []

-- the languages of a file
unfoldable pub languages_of_file : Counting → Tree → KeptFile → List (ℕ × LanguageValue)
languages_of_file counting tree file =
    languages_in counting tree file (language_of_file counting tree file)

-- the languages of a run: those of each file, merged in their order
abbrev pub languages_of_run : Counting → Tree → List KeptFile → List (ℕ × LanguageValue)
languages_of_run counting tree [] = []
languages_of_run counting tree (file ∷ files) =
    merged_languages (languages_of_file counting tree file) (languages_of_run counting tree files)

-- the languages of the files are merged with those from before
abbrev pub AddsFiles : Counting → Tree → List KeptFile → List (ℕ × LanguageValue)
    → List (ℕ × LanguageValue) → Type 0
AddsFiles counting tree files old new =
    new ≡ merged_languages old (languages_of_run counting tree files)

-- the languages of the first files are, of so many as `count` says
pub record AddsFirst (counting : Counting) (tree : Tree) (files : List KeptFile)
    (old new : List (ℕ × LanguageValue)) : Type 0 where
  pub count : ℕ
  pub adds : AddsFiles counting tree (take count files) old new

-- those of all files are, and the counts are renewed
abbrev pub AddsRun : Counting → Tree → List KeptFile → List (ℕ × LanguageValue)
    → List (ℕ × LanguageValue) → Type 0
AddsRun counting tree files old new =
    new ≡ renewed_languages (merged_languages old (languages_of_run counting tree files))

-- the sums of a run fit the code's numbers: each reading's, and those of the renewed counts
pub record RunFits (counting : Counting) (tree : Tree) (files : List KeptFile)
    (old : List (ℕ × LanguageValue)) : Type 0 where
  pub readings : ReadingsFit counting tree files
  pub renewal : RenewalFits (merged_languages old (languages_of_run counting tree files))
