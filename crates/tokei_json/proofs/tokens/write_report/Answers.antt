use Rattle.std.proofs.Common.{◌≡◌, codes, refl, subst, rules}
use Rattle.std.proofs.lemmas.Result.{on_ok_weaker}
use Rattle.serde_json.specs.Data.{string}
use Rattle.tokei_json.specs.ReportData.{statistics_data}
use Rattle.tokei_json.specs.Tokens.{IsMember}
use Rattle.tokei_json.proofs.Objects.{named_stats_written}
use Rattle.tokei_stats.specs.Reports.{report_of}
use Rattle.tokei_json.proofs.tokens.write_report.Goals as goal

pub returns : goal.returns
returns c =
    let r = report_of c.args.report.now in
    let first = c.begin_object.new.self in
    let w1 = c.write_text.new.out in
    let same : c.as_str.result.now ≡ r.name = search rules in
    on_ok_weaker c.end_object.result (λ e.
    named_stats_written (codes "name") r.name (statistics_data c.args.table.now r.stats) c.args.out.now first w1 c.write_statistics.new.out c.end_object.new.self refl
    (record { tokens = c.in_ok-begin_object.ensures.ok; before = c.in_ok-begin_object.ensures.room.0 })
    (subst (λ s. IsMember (codes "name") (string s) first w1) same c.in_ok-write_text.ensures)
    c.in_ok-write_statistics.ensures (record { tokens = e; before = c.end_object.ensures.room.0 })) c.end_object.ensures.ok
