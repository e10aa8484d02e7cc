use Rattle.std.proofs.Common.{◌≤◌}
use Rattle.std.specs.List.{AllByRecursion}
use Rattle.std.specs.Map.{values_of}
use Rattle.tokei_json.specs.ReportData.{statistics_data}
use Rattle.tokei_json.specs.Tokens.{members_by}
use Rattle.tokei_json.proofs.Naming.{now_of, seen_by}
use Rattle.tokei_json.proofs.Writing.{LacksMembers}
use Rattle.tokei_stats.proofs.stats.CodeStats.TheLaws.{the_size}
use Rattle.tokei_stats.specs.Seen.{stats_of}
use Rattle.tokei_json.proofs.tokens.+statistics.Given as goal
use denote.Param.Weighed.{most}

-- what isn't written yet, and that it is no deeper than the blobs
abbrev pub invariant-write_blobs-loop-name : goal.invariant-write_blobs-loop-name
invariant-write_blobs-loop-name l = record {
  written : LacksMembers (members_by (λ s. statistics_data l.table (stats_of s)) (seen_by now_of l.initial.name-iterator))
      (members_by (λ s. statistics_data l.table (stats_of s)) (seen_by now_of l.name-iterator)) l.initial.out l.out;
  within : AllByRecursion (λ e. the_size e.1.now ≤ most the_size (values_of l.blobs.entries)) l.name-iterator;
}
