use Rattle.std.proofs.Common.{◌≡◌, ◌++◌, string_bytes}
use Rattle.tokei_stats.specs.Seen.{blobs_of, entries_of}
use Rattle.tokei_print.specs.BlobRows.{BlobRowsFit, blob_rows}
use Rattle.tokei_languages.specs.Names.{name_in}
use Rattle.tokei_print.proofs.layout.Layout.blob_rows.Given as goal

abbrev pub invariant-loop-language : goal.invariant-loop-language
invariant-loop-language l =
    (string_bytes l.rows ++ blob_rows l.self (name_in l.table) l.inaccurate (blobs_of (entries_of l.language-iterator))
    ≡ blob_rows l.self (name_in l.table) l.inaccurate (blobs_of (entries_of l.blobs.entries)))
    × (BlobRowsFit (blobs_of (entries_of l.blobs.entries)) → BlobRowsFit (blobs_of (entries_of l.language-iterator)))
