use Rattle.json.specs.Value.{members_view}
use Rattle.tokei_json_tree.specs.Ordered.{AreMembersOrdered}
use Rattle.tokei_json_tree.specs.TreeData.{members_data}
use Rattle.tokei_json.specs.LanguageMaps.{passes, lists_pass}
use Rattle.tokei_json_tree.proofs.Left.{AskedLeft}
use Rattle.tokei_json.proofs.language_maps.children_pass.Given as goal

abbrev pub invariant-loop-member : goal.invariant-loop-member
invariant-loop-member l =
    AskedLeft (λ xs. lists_pass (passes l.table l.test) (members_data (members_view xs))) (λ xs. AreMembersOrdered (members_view xs)) l.member-items l.member-index
