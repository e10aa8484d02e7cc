use Rattle.std.proofs.Common.{◌≡◌}
use Rattle.serde_json.specs.View.{members_view}
use Rattle.serde_json.specs.Data.{no_members}
use Rattle.tokei_json.specs.ReportData.{blobs_data}
use Rattle.tokei_stats.specs.Seen.{blobs_of, entries_of}
use Rattle.tokei_json.proofs.reports.+statistics.Given as goal

abbrev pub invariant-blobs_value-loop-language : goal.invariant-blobs_value-loop-language
invariant-blobs_value-loop-language l =
    blobs_data l.table (blobs_of (entries_of l.blobs.entries)) no_members
    ≡ blobs_data l.table (blobs_of (entries_of l.language-iterator)) (members_view l.members.entries)
