use Rattle.tokei_table_json.specs.MemberEscapes.{keeps_escapes}
use Rattle.tokei_table_json.specs.MemberLayout.{all_members}
use Rattle.tokei_table_json.proofs.Left.{MembersLeft}
use Rattle.tokei_table_json.proofs.escaped.misescaped_member.Given as goal

abbrev pub invariant-loop-entry : goal.invariant-loop-entry
invariant-loop-entry l = MembersLeft (all_members (keeps_escapes l.html)) l.entry-items l.entry-index
