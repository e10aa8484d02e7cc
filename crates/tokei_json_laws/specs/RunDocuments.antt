-- The documents of runs without earlier results: their languages are of the table, hold at most 50
-- levels of blobs and stand in the table's order, so that they are read back.
use Rattle.std.specs.Prelude.{◌≡◌, ℕ, List, [], length, Some, Ok}
use Rattle.serde_json.specs.Read.{read}
use Rattle.serde_json.specs.Written.{compact_text}
use Rattle.tokei.specs.Runs.{languages_after}
use Rattle.tokei_config.specs.Settings.{Settings}
use Rattle.tokei_count.specs.PlainReading.{outermost_levels}
use Rattle.tokei_earlier.specs.Outcome.{outcome_of_text}
use Rattle.tokei_files.specs.Configs.{counting_by}
use Rattle.tokei_folders.specs.Tree.{Tree}
use Rattle.tokei.specs.declared.job.Job.{Job}
use Rattle.tokei.specs.Earlier.{earlier_of}
use Rattle.tokei_json.specs.Document.{document}
use Rattle.tokei_languages.specs.Merging.{merged_languages}
use Rattle.tokei_languages.specs.Renewing.{renewed_languages}
use Rattle.tokei_languages.specs.Values.{LanguageValue}
use Rattle.tokei_statistics.specs.Runs.{languages_of_run}
use Rattle.tokei_table.specs.Row.{Row}
use Rattle.tokei_table.specs.WellFormed.{IsWellFormed}
use Rattle.tokei_walk.specs.declared.kept_file.KeptFile.{KeptFile}
use Rattle.tokei_json_laws.specs.InOrder.{LanguagesAreInOrder}
use Rattle.tokei_json_laws.specs.Known.{LanguagesAreKnown}
use Rattle.tokei_json_laws.specs.Levels.{LanguagesWithin}

-- the languages of files that are counted by a table and a configuration, and of nothing else
abbrev pub languages_counted : List Row → Settings → Tree → List KeptFile
    → List (ℕ × LanguageValue)
languages_counted rows settings tree files =
    renewed_languages (merged_languages []
    (languages_of_run (counting_by rows settings) tree files))

-- what a document needs in order to be read back
pub record CanBeReadBack (rows : List Row) (es : List (ℕ × LanguageValue)) : Type 0 where
  pub known : LanguagesAreKnown (length rows) es
  pub shallow : LanguagesWithin outermost_levels es
  pub ordered : LanguagesAreInOrder es

-- the languages of any files have it, whatever the configuration says
abbrev pub CountedLanguagesCanBeReadBack : Type 0
CountedLanguagesCanBeReadBack =
    (rows : List Row) → IsWellFormed rows → (s : Settings) (t : Tree) (files : List KeptFile)
    → CanBeReadBack rows (languages_counted rows s t files)

-- a text is the document of languages, as it is written and as it is read
pub record IsDocument (rows : List Row) (es : List (ℕ × LanguageValue))
    (text : List ℕ) : Type 0 where
  pub written : text ≡ compact_text (document rows es)
  pub value : read text ≡ Some (document rows es)

-- the document of a run without earlier results is read as the languages of the run
abbrev pub DocumentsOfRunsReadBack : Type 0
DocumentsOfRunsReadBack =
    (rows : List Row) → IsWellFormed rows → (job : Job) → earlier_of job.earlier ≡ []
    → (t : Tree) (text : List ℕ) → IsDocument rows (languages_after rows job t) text
    → outcome_of_text rows text ≡ Ok (languages_after rows job t)
