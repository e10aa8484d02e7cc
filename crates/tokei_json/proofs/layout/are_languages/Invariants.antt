use Rattle.json.specs.Value.{members_view}
use Rattle.tokei_json_tree.specs.Ordered.{AreMembersOrdered}
use Rattle.tokei_json_tree.specs.TreeData.{members_data}
use Rattle.tokei_json.specs.Layout.{are_languages}
use Rattle.tokei_json_tree.proofs.Left.{AskedLeft}
use Rattle.tokei_json.proofs.layout.are_languages.Given as goal

abbrev pub invariant-loop-member : goal.invariant-loop-member
invariant-loop-member l =
    AskedLeft (λ xs. are_languages (members_data (members_view xs))) (λ xs. AreMembersOrdered (members_view xs)) l.member-items l.member-index
