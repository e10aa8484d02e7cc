use Rattle.std.proofs.Common.{[]}
use Rattle.json.specs.Value.{members_view}
use Rattle.tokei_earlier.specs.ReadReports.{with_children}
use Rattle.tokei_json_tree.specs.Ordered.{AreMembersOrdered}
use Rattle.tokei_json_tree.specs.TreeData.{members_data}
use Rattle.tokei_stats.specs.Reports.{children_of}
use Rattle.tokei_json_tree.proofs.Left.{Left}
use Rattle.tokei_earlier.proofs.reading.with_children.Given as goal

abbrev pub invariant-loop-member : goal.invariant-loop-member
invariant-loop-member l =
    Left (with_children l.table (members_data (members_view l.member-items)) [])
    (λ xs. with_children l.table (members_data (members_view xs)) (children_of l.children.entries))
    (λ xs. AreMembersOrdered (members_view xs)) l.member-items l.member-index
