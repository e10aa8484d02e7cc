use Rattle.std.proofs.Common.{◌≡◌}
use Rattle.serde_json.specs.View.{members_view}
use Rattle.serde_json.specs.Data.{no_members}
use Rattle.tokei_json.specs.Document.{named_data, language_data}
use Rattle.tokei_languages.specs.Seen.{entries_of, languages_of}
use Rattle.tokei_json.proofs.write.languages_value.Given as goal

abbrev pub invariant-loop-language : goal.invariant-loop-language
invariant-loop-language l =
    named_data l.table (language_data l.table) (languages_of l.languages) no_members
    ≡ named_data l.table (language_data l.table) (entries_of l.language-iterator) (members_view l.members.entries)
