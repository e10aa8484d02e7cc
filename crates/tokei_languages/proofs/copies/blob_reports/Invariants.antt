use Rattle.std.proofs.Common.{◌≡◌, ◌++◌, string_bytes}
use Rattle.tokei_stats.specs.Seen.{blobs_of, entries_of}
use Rattle.tokei_languages.specs.Merging.{blob_reports}
use Rattle.tokei_languages.specs.Seen.{children_of}
use Rattle.tokei_languages.proofs.copies.blob_reports.Given as goal

abbrev pub invariant-loop-language : goal.invariant-loop-language
invariant-loop-language l =
    children_of l.children.entries ++ blob_reports (string_bytes l.name) (blobs_of (entries_of l.language-iterator))
    ≡ blob_reports (string_bytes l.name) (blobs_of (entries_of l.blobs.entries))
