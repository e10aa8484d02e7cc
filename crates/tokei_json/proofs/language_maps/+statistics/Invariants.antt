use Rattle.json.specs.Value.{members_view}
use Rattle.tokei_json_tree.specs.Ordered.{AreMembersOrdered}
use Rattle.tokei_json_tree.specs.TreeData.{members_data}
use Rattle.tokei_json.specs.LanguageMaps.{passes, blobs_at_pass, each_passes}
use Rattle.tokei_json_tree.proofs.Left.{AskedLeft}
use Rattle.tokei_json.proofs.language_maps.+statistics.Given as goal

abbrev pub invariant-statistics_pass-loop-member : goal.invariant-statistics_pass-loop-member
invariant-statistics_pass-loop-member l =
    AskedLeft (λ xs. blobs_at_pass (passes l.table l.test) (members_data (members_view xs))) (λ xs. AreMembersOrdered (members_view xs)) l.member-items l.member-index

abbrev pub invariant-blobs_pass-loop-member : goal.invariant-blobs_pass-loop-member
invariant-blobs_pass-loop-member l =
    AskedLeft (λ xs. each_passes (passes l.table l.test) (members_data (members_view xs))) (λ xs. AreMembersOrdered (members_view xs)) l.member-items l.member-index
