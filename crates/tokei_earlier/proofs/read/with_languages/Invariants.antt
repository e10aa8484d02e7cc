use Rattle.std.proofs.Common.{[]}
use Rattle.json.specs.Value.{members_view}
use Rattle.tokei_earlier.specs.Reading.{with_languages}
use Rattle.tokei_json_tree.specs.Ordered.{AreMembersOrdered}
use Rattle.tokei_json_tree.specs.TreeData.{members_data}
use Rattle.tokei_languages.specs.Seen.{languages_of}
use Rattle.tokei_json_tree.proofs.Left.{Left}
use Rattle.tokei_earlier.proofs.read.with_languages.Given as goal

abbrev pub invariant-loop-member : goal.invariant-loop-member
invariant-loop-member l =
    Left (with_languages l.table (members_data (members_view l.member-items)) [])
    (λ xs. with_languages l.table (members_data (members_view xs)) (languages_of l.languages))
    (λ xs. AreMembersOrdered (members_view xs)) l.member-items l.member-index
