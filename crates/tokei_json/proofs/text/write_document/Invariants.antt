use Rattle.tokei_json.specs.Members.{member_data}
use Rattle.tokei_json.specs.Tokens.{members_by}
use Rattle.tokei_json.proofs.Naming.{seen_by}
use Rattle.tokei_json.proofs.Writing.{LacksMembers}
use Rattle.tokei_languages.specs.Seen.{languages_of}
use Rattle.tokei_json.proofs.text.write_document.Given as goal

abbrev pub invariant-loop-name : goal.invariant-loop-name
invariant-loop-name l =
    LacksMembers (members_by (member_data l.counted.table.now (languages_of l.counted.languages.now)) (seen_by (λ x. x) l.initial.name-iterator))
    (members_by (member_data l.counted.table.now (languages_of l.counted.languages.now)) (seen_by (λ x. x) l.name-iterator)) l.initial.out l.out
