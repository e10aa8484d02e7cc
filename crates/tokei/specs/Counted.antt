-- What a job counts: which files, and by what.
use Rattle.std.specs.Prelude.{List}
use Rattle.tokei_config.specs.Seen.{settings_of}
use Rattle.tokei_folders.specs.Tree.{Tree}
use Rattle.tokei.specs.declared.job.Job.{Job}
use Rattle.tokei_files.specs.Configs.{counting_by, kept_by}
use Rattle.tokei_files.specs.Files.{Counting}
use Rattle.tokei_table.specs.Row.{Row}
use Rattle.tokei_walk.specs.declared.kept_file.KeptFile.{KeptFile}
use Rattle.tokei_walk.specs.Walks.{texts_of}

-- by what a job counts files
abbrev pub counting_of : List Row → Job → Counting
counting_of rows job = counting_by rows (settings_of job.config)

-- the files that a job counts
abbrev pub files_of : Job → Tree → List KeptFile
files_of job tree =
    kept_by (settings_of job.config) tree (texts_of job.paths.items) (texts_of job.ignored.items)
