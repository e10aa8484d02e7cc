use Rattle.json.specs.Value.{members_view}
use Rattle.tokei_earlier.specs.ReadReports.{blobs_at, with_blobs}
use Rattle.tokei_json_tree.specs.Ordered.{AreMembersOrdered}
use Rattle.tokei_json_tree.specs.TreeData.{members_data}
use Rattle.tokei_stats.specs.Seen.{blobs_of, entries_of}
use Rattle.tokei_stats.specs.Statistics.Blobs.{none}
use Rattle.tokei_json_tree.proofs.Left.{Left}
use Rattle.tokei_earlier.proofs.reading.+statistics.Given as goal

abbrev pub invariant-statistics_in-loop-member : goal.invariant-statistics_in-loop-member
invariant-statistics_in-loop-member l =
    Left (blobs_at l.table (members_data (members_view l.member-items))) (λ xs. blobs_at l.table (members_data (members_view xs)))
    (λ xs. AreMembersOrdered (members_view xs)) l.member-items l.member-index

abbrev pub invariant-blobs_in-loop-member : goal.invariant-blobs_in-loop-member
invariant-blobs_in-loop-member l =
    Left (with_blobs l.table (members_data (members_view l.member-items)) none)
    (λ xs. with_blobs l.table (members_data (members_view xs)) (blobs_of (entries_of l.blobs.entries)))
    (λ xs. AreMembersOrdered (members_view xs)) l.member-items l.member-index
