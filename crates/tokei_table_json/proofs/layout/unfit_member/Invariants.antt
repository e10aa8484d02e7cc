use Rattle.tokei_table_json.specs.MemberLayout.{all_members, fits}
use Rattle.tokei_table_json.proofs.Left.{MembersLeft}
use Rattle.tokei_table_json.proofs.layout.unfit_member.Given as goal

abbrev pub invariant-loop-entry : goal.invariant-loop-entry
invariant-loop-entry l = MembersLeft (all_members (fits l.html)) l.entry-items l.entry-index
