use Rattle.std.proofs.Common.{◌≡◌}
use Rattle.serde_json.specs.View.{members_view}
use Rattle.serde_json.specs.Data.{no_members}
use Rattle.tokei_json.specs.Document.{named_data, reports_data}
use Rattle.tokei_languages.specs.Seen.{entries_of, languages_of}
use Rattle.tokei_languages.specs.Summaries.{reports_by_language}
use Rattle.tokei_json.proofs.write.reports_by_language_value.Given as goal

abbrev pub invariant-loop-language : goal.invariant-loop-language
invariant-loop-language l =
    named_data l.table (reports_data l.table) (reports_by_language (languages_of l.languages)) no_members
    ≡ named_data l.table (reports_data l.table) (reports_by_language (entries_of l.language-iterator)) (members_view l.members.entries)
