use Rattle.json.specs.Value.{members_view}
use Rattle.tokei_json_tree.specs.Ordered.{AreMembersOrdered}
use Rattle.tokei_json_tree.specs.TreeData.{members_data}
use Rattle.tokei_json.specs.Layout.{blobs_stand, all_statistics}
use Rattle.tokei_json_tree.proofs.Left.{AskedLeft}
use Rattle.tokei_json.proofs.layout.+statistics.Given as goal

abbrev pub invariant-is_statistics-loop-member : goal.invariant-is_statistics-loop-member
invariant-is_statistics-loop-member l =
    AskedLeft (λ xs. blobs_stand (members_data (members_view xs))) (λ xs. AreMembersOrdered (members_view xs)) l.member-items l.member-index

abbrev pub invariant-are_blobs-loop-member : goal.invariant-are_blobs-loop-member
invariant-are_blobs-loop-member l =
    AskedLeft (λ xs. all_statistics (members_data (members_view xs))) (λ xs. AreMembersOrdered (members_view xs)) l.member-items l.member-index
