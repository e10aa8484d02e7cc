-- What a run writes: a document, the printed report, or a stream.
use Rattle.std.specs.Prelude.{ℕ, List, Option}
use Rattle.std.specs.Io.KnownBytes.{Appends}
use Rattle.tokei_earlier.specs.declared.format.Format.{Format}
use Rattle.tokei_earlier.specs.DocumentTexts.{document_text}
use Rattle.tokei_folders.specs.Tree.{Tree}
use Rattle.tokei_table.specs.Row.{Row}
use Rattle.tokei.specs.declared.job.Job.{Job}
use Rattle.tokei.specs.declared.job.Wanted.{Wanted}
use Rattle.tokei.specs.declared.job.Wanted.TheVariants.{Stream, Document, Report}
use Rattle.tokei.specs.Written.{AppendsReport}
use Rattle.tokei.specs.JobStreams.{WritesStream}
use Rattle.tokei.specs.Runs.{languages_after}

-- behind what stood there a writer has the document of a job's languages in this format, and
-- nothing else
abbrev pub WritesDocument : Format → List Row → Job → Tree → Option (List ℕ) → Option (List ℕ)
    → Type 0
WritesDocument format rows job tree old new =
    Appends old new (document_text format rows (languages_after rows job tree))

-- the report of a job's languages is written
abbrev pub WritesReport : List Row → Job → Tree → Option (List ℕ) → Option (List ℕ) → Type 0
WritesReport rows job tree old new = AppendsReport rows job (languages_after rows job tree) old new

-- what a run writes
abbrev pub Outputs : Wanted → List Row → Job → Tree → Option (List ℕ) → Option (List ℕ) → Type 0
Outputs (Document format) rows job tree old new = WritesDocument format rows job tree old new
Outputs Report rows job tree old new = WritesReport rows job tree old new
Outputs (Stream form) rows job tree old new = WritesStream form rows job tree old new
