-- The languages that a run shows: those of earlier runs merged with those of the files that are
-- kept, all counts renewed.
use Rattle.std.specs.Prelude.{ℕ, List}
use Rattle.tokei_folders.specs.Tree.{Tree}
use Rattle.tokei_languages.specs.Merging.{merged_languages}
use Rattle.tokei_languages.specs.Renewing.{renewed_languages}
use Rattle.tokei_languages.specs.Values.{LanguageValue}
use Rattle.tokei_statistics.specs.Runs.{languages_of_run}
use Rattle.tokei_table.specs.Row.{Row}
use Rattle.tokei.specs.declared.job.Job.{Job}
use Rattle.tokei.specs.Earlier.{earlier_of}
use Rattle.tokei.specs.Counted.{counting_of, files_of}

-- the languages that a run shows
unfoldable pub languages_after : List Row → Job → Tree → List (ℕ × LanguageValue)
languages_after rows job tree =
    renewed_languages
    (merged_languages (earlier_of job.earlier)
    (languages_of_run (counting_of rows job) tree (files_of job tree)))
