use Rattle.std.proofs.Common.{◌≡◌, codes, refl, subst, rules}
use Rattle.std.proofs.lemmas.Result.{on_ok_weaker}
use Rattle.serde_json.specs.Data.{string}
use Rattle.tokei_languages.specs.Names.{name_in}
use Rattle.tokei_json.specs.ReportData.{report_data}
use Rattle.tokei_json.specs.Tokens.{IsMember}
use Rattle.tokei_json.proofs.Objects.{named_stats_written}
use Rattle.tokei_json.proofs.Writing.{member_of}
use Rattle.tokei_stats.specs.Reports.{report_of}
use Rattle.tokei_json.proofs.tokens.write_line.Goals as goal

pub returns : goal.returns
returns c =
    let rows = c.args.table.now in
    let name = name_in rows c.args.language in
    let stats = report_data rows (report_of c.args.file.now) in
    let first = c.begin_object.new.self in
    let w1 = c.write_text.new.out in
    let w2 = c.write_report.new.out in
    let called : c.name_of.result.now ≡ name = search rules in
    on_ok_weaker c.end_object.result (λ e.
    named_stats_written (codes "language") name stats c.args.out.now first w1 w2 c.end_object.new.self refl
    (record { tokens = c.in_ok-begin_object.ensures.ok; before = c.in_ok-begin_object.ensures.room.0 })
    (subst (λ s. IsMember (codes "language") (string s) first w1) called c.in_ok-write_text.ensures)
    (member_of (codes "stats") stats w1 c.key.new.self w2 c.in_ok-key.ensures.ok c.in_ok-key.ensures.room.0 c.in_ok-write_report.ensures)
    (record { tokens = e; before = c.end_object.ensures.room.0 })) c.end_object.ensures.ok
