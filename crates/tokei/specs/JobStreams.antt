-- The stream of a job: that it is written, or begun, and when its sums fit.
use Rattle.std.specs.Prelude.{◌≡◌, ◌⊎◌, ℕ, List, ◌++◌, Option}
use Rattle.std.specs.Io.KnownBytes.{Appends}
use Rattle.tokei_folders.specs.Tree.{Tree}
use Rattle.tokei.specs.declared.job.Job.{Job}
use Rattle.tokei.specs.Earlier.{earlier_of}
use Rattle.tokei_languages.specs.Renewing.{RenewalFits}
use Rattle.tokei_files.specs.Files.{Counting, ReadingsFit}
use Rattle.tokei.specs.Counted.{counting_of, files_of}
use Rattle.tokei.specs.Streams.{stream_text}
use Rattle.tokei_options.specs.declared.streaming.Streaming.{Streaming}
use Rattle.tokei_table.specs.Row.{Row}
use Rattle.tokei_walk.specs.declared.kept_file.KeptFile.{KeptFile}

-- behind what stood there a writer has the stream of a job's files, and nothing else
abbrev pub WritesStream : Streaming → List Row → Job → Tree → Option (List ℕ) → Option (List ℕ)
    → Type 0
WritesStream form rows job tree old new =
    Appends old new (stream_text form rows (counting_of rows job) tree (files_of job tree))

-- behind what stood there a writer has the text of the first of these files, and nothing else
pub record WritesFirst (text : List KeptFile → List ℕ) (files : List KeptFile)
    (old new : Option (List ℕ)) : Type 0 where
  pub first : List KeptFile
  pub others : List KeptFile
  pub are : files ≡ first ++ others
  pub appended : Appends old new (text first)

-- a stream isn't begun, or its first rows are written
abbrev pub BeginsStream : Streaming → List Row → Counting → Tree → List KeptFile → Option (List ℕ)
    → Option (List ℕ) → Type 0
BeginsStream form rows counting tree files old new =
    (new ≡ old) ⊎ WritesFirst (stream_text form rows counting tree) files old new

-- of a job's files
abbrev pub BeginsJobStream : Streaming → List Row → Job → Tree → Option (List ℕ)
    → Option (List ℕ) → Type 0
BeginsJobStream form rows job tree old new =
    BeginsStream form rows (counting_of rows job) tree (files_of job tree) old new

-- the sums of a stream fit: the readings, and the renewed counts of earlier results. Its rows show
-- exact sums
pub record StreamFits (rows : List Row) (job : Job) (tree : Tree) : Type 0 where
  pub earlier : RenewalFits (earlier_of job.earlier)
  pub readings : ReadingsFit (counting_of rows job) tree (files_of job tree)
