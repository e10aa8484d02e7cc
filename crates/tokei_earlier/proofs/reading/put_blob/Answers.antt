use Rattle.std.proofs.Common.{◌∙◌, ap, sym}
use Rattle.tokei_earlier.specs.ReadReports.{put_blob}
use Rattle.tokei_stats.specs.Seen.{blobs_of, entries_of, stats_of}
use Rattle.tokei_earlier.proofs.Insertions.{insert_blob}
use Rattle.tokei_earlier.proofs.reading.put_blob.Goals as goal

pub returns-in_ok-insert : goal.returns-in_ok-insert
returns-in_ok-insert c =
    ap (λ es. blobs_of (entries_of es)) c.in_ok-insert.ensures.entries
    ∙ insert_blob c.args.blobs.now.entries c.in-Some.language c.args.stats
    ∙ ap (λ o. put_blob o (blobs_of (entries_of c.args.blobs.now.entries)) (stats_of c.args.stats)) (sym c.in-Some.is)
