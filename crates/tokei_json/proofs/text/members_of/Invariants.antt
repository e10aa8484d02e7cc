use Rattle.std.proofs.Common.{◌≡◌}
use Rattle.serde_json.specs.Data.{no_members}
use Rattle.tokei_json.specs.Document.{named_data, language_data}
use Rattle.tokei_json.specs.Members.{member_data}
use Rattle.tokei_json.specs.Tokens.{members_by}
use Rattle.tokei_json.proofs.Naming.{seen_by}
use Rattle.tokei_languages.specs.Seen.{entries_of, languages_of}
use Rattle.tokei_json.proofs.text.members_of.Given as goal

abbrev pub invariant-loop-language : goal.invariant-loop-language
invariant-loop-language l =
    named_data l.counted.table.now (language_data l.counted.table.now) (languages_of l.counted.languages.now) no_members
    ≡ named_data l.counted.table.now (language_data l.counted.table.now) (entries_of l.language-iterator)
    (members_by (member_data l.counted.table.now (languages_of l.counted.languages.now)) (seen_by (λ x. x) l.members.entries))
