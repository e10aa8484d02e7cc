-- What a job passes over.
use Rattle.std.specs.Prelude.{List}
use Rattle.tokei_config.specs.Seen.{settings_of}
use Rattle.tokei_files.specs.Configs.{noted_by}
use Rattle.tokei_files.specs.Unread.{NotesAre, unread_of}
use Rattle.tokei_folders.specs.Tree.{Tree}
use Rattle.tokei.specs.Counted.{counting_of, files_of}
use Rattle.tokei.specs.declared.job.Job.{Job}
use Rattle.tokei_table.specs.Row.{Row}
use Rattle.tokei_walk.specs.declared.kept_file.Note.{Note}
use Rattle.tokei_walk.specs.Noted.{Noted}
use Rattle.tokei_walk.specs.Notes.{notes_of_excludes}
use Rattle.tokei_walk.specs.Walks.{texts_of}

-- what the walk over a job's roots notes
abbrev pub walk_notes : Job → Tree → List Noted
walk_notes job tree =
    noted_by (settings_of job.config) tree (texts_of job.paths.items) (texts_of job.ignored.items)

-- the notes of a job: of its excludes, of its walk, and of each file that counts and can't be read
abbrev pub AreNotesOf : List Row → Job → Tree → List Note → Type 0
AreNotesOf rows job tree notes =
    NotesAre (notes_of_excludes (texts_of job.ignored.items)) (walk_notes job tree)
    (unread_of (counting_of rows job) tree (files_of job tree)) notes
