use Rattle.std.proofs.Common.{◌≡◌}
use Rattle.serde_json.specs.View.{members_view}
use Rattle.serde_json.specs.Data.{no_members}
use Rattle.tokei_json.specs.ReportData.{named_data, reports_data}
use Rattle.tokei_stats.specs.Reports.{children_of}
use Rattle.tokei_json.proofs.reports.children_value.Given as goal

abbrev pub invariant-loop-language : goal.invariant-loop-language
invariant-loop-language l =
    named_data l.table (reports_data l.table) (children_of l.children.entries) no_members
    ≡ named_data l.table (reports_data l.table) (children_of l.language-iterator) (members_view l.members.entries)
