use Rattle.std.proofs.Common.{◌≡◌}
use Rattle.serde_json.specs.Data.{no_members}
use Rattle.tokei_json.specs.Document.{named_data, reports_data}
use Rattle.tokei_json.specs.Tokens.{children_members}
use Rattle.tokei_languages.specs.Seen.{entries_of, languages_of}
use Rattle.tokei_languages.specs.Summaries.{reports_by_language}
use Rattle.tokei_json.proofs.text.reports_by_name.Given as goal

abbrev pub invariant-loop-language : goal.invariant-loop-language
invariant-loop-language l =
    named_data l.counted.table.now (reports_data l.counted.table.now) (reports_by_language (languages_of l.counted.languages.now)) no_members
    ≡ named_data l.counted.table.now (reports_data l.counted.table.now) (reports_by_language (entries_of l.language-iterator))
    (children_members l.counted.table.now l.members.entries)
