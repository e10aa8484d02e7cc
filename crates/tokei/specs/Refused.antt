-- What a run that memory or a sum ended leaves in its writer: nothing of a document or of a report.
-- A stream is written as its files are counted, so the rows of the first ones may stand, whole.
use Rattle.std.specs.Prelude.{◌≡◌, ℕ, List, Option, ⊤}
use Rattle.tokei_folders.specs.Tree.{Tree}
use Rattle.tokei.specs.JobStreams.{BeginsJobStream}
use Rattle.tokei.specs.declared.job.Job.{Job}
use Rattle.tokei.specs.declared.job.Wanted.{Wanted}
use Rattle.tokei.specs.declared.job.Wanted.TheVariants.{Stream, Document, Report}
use Rattle.tokei_table.specs.Row.{Row}

-- a document or a report isn't begun: the writer holds what it held
abbrev pub IsUntouched : Wanted → Option (List ℕ) → Option (List ℕ) → Type 0
IsUntouched (Document format) old new = new ≡ old
IsUntouched Report old new = new ≡ old
IsUntouched (Stream form) old new = ⊤

-- nor is a stream of a known tree, or it ends behind the row of a file
abbrev pub IsBegun : Wanted → List Row → Job → Tree → Option (List ℕ) → Option (List ℕ) → Type 0
IsBegun (Document format) rows job tree old new = new ≡ old
IsBegun Report rows job tree old new = new ≡ old
IsBegun (Stream form) rows job tree old new = BeginsJobStream form rows job tree old new
