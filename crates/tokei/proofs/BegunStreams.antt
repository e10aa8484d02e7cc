-- A stream that has begun.
use Rattle.std.proofs.Common.{◌≢◌, ℕ, List, [], Option, Result, Ok, Err, refl, sym, append-nil, subst, inr}
use Rattle.std.proofs.KnownBytes.{Appends-trans}
use Rattle.std.specs.Io.KnownBytes.{Appends}
use Rattle.std.specs.Prelude.{IfErr}
use Rattle.tokei_files.specs.Files.{Counting}
use Rattle.tokei_folders.specs.Tree.{Tree}
use Rattle.tokei_io.specs.declared.error.OutputError.{OutputError}
use Rattle.tokei_io.specs.declared.error.OutputError.TheVariants.{Write}
use Rattle.tokei_options.specs.declared.streaming.Streaming.{Streaming}
use Rattle.tokei_table.specs.Row.{Row}
use Rattle.tokei_walk.specs.declared.kept_file.KeptFile.{KeptFile}
use Rattle.tokei.specs.JobStreams.{BeginsStream, WritesFirst}
use Rattle.tokei.specs.Rows.{heading_of}
use Rattle.tokei.specs.Streams.{rows_of, stream_text}

-- what holds whichever the refusal is
pub begun_by : {A P : Type 0} (r : Result A OutputError) → P → IfErr r (λ e. e ≢ Write → P)
begun_by (Ok a) p = tt
begun_by (Err e) p = λ q. p

module _ (form : Streaming) (rows : List Row) (by : Counting) (t : Tree) (files : List KeptFile) (old mid : Option (List ℕ)) where
  -- a heading with no row below it
  pub heading_alone : Appends old mid (heading_of form) → BeginsStream form rows by t files old mid
  heading_alone heading =
      inr (record { first = []; others = files; are = refl; appended = subst (Appends old mid) (sym (append-nil (heading_of form))) heading })

  -- the rows of the first files below it
  pub rows_behind : (new : Option (List ℕ)) → Appends old mid (heading_of form) → WritesFirst (rows_of form rows by t) files mid new → WritesFirst (stream_text form rows by t) files old new
  rows_behind new heading h = record {
    first = h.first;
    others = h.others;
    are = h.are;
    appended = Appends-trans old mid new (heading_of form) (rows_of form rows by t h.first) heading h.appended;
  }

  -- and those of all
  pub whole_stream : (new : Option (List ℕ)) → Appends old mid (heading_of form) → Appends mid new (rows_of form rows by t files) → BeginsStream form rows by t files old new
  whole_stream new heading all =
      inr (record {
        first = files;
        others = [];
        are = sym (append-nil files);
        appended = Appends-trans old mid new (heading_of form) (rows_of form rows by t files) heading all;
      })
