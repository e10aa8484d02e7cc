use Rattle.std.proofs.Common.{codes, map, refl}
use Rattle.std.proofs.lemmas.Result.{on_ok_weaker}
use Rattle.serde_json.specs.Data.{boolean, object}
use Rattle.tokei_json.specs.ReportData.{reports_data}
use Rattle.tokei_json.specs.Tokens.{IsWritten, children_members}
use Rattle.tokei_json.proofs.Objects.{language_written}
use Rattle.tokei_json.proofs.Writing.{member_of}
use Rattle.tokei_stats.specs.Reports.{report_of}
use Rattle.tokei_stats.specs.Seen.{sums_of}
use Rattle.tokei_json.proofs.text.write_shown.Goals as goal

pub returns : goal.returns
returns c =
    let rows = c.args.table.now in
    let s = c.args.shown in
    let children = object (children_members rows c.args.children.now.entries) in
    let reports = reports_data rows (map report_of s.reports.now) in
    let w1 = c.write_count.new.out in
    let w2 = c.write_children.new.out in
    let w3 = c.write_count-2.new.out in
    let w4 = c.write_count-3.new.out in
    let w5 = c.boolean.new.self in
    let w6 = c.write_reports.new.out in
    let marked : IsWritten (boolean s.inaccurate) c.key-2.new.self w5 = record { tokens = c.in_ok-boolean.ensures.ok; reads = refl; before = c.in_ok-boolean.ensures.room.0 } in
    let m2 = member_of (codes "children") children w1 c.key.new.self w2 c.in_ok-key.ensures.ok c.in_ok-key.ensures.room.0 c.in_ok-write_children.ensures in
    let m5 = member_of (codes "inaccurate") (boolean s.inaccurate) w4 c.key-2.new.self w5 c.in_ok-key-2.ensures.ok c.in_ok-key-2.ensures.room.0 marked in
    on_ok_weaker c.end_object.result (λ e.
    language_written (sums_of s.counts) children reports s.inaccurate c.args.out.now c.begin_object.new.self w1 w2 w3 w4 w5 w6 c.end_object.new.self
    (record { tokens = c.in_ok-begin_object.ensures.ok; before = c.in_ok-begin_object.ensures.room.0 })
    c.in_ok-write_count.ensures m2 c.in_ok-write_count-2.ensures c.in_ok-write_count-3.ensures m5 c.in_ok-write_reports.ensures
    (record { tokens = e; before = c.end_object.ensures.room.0 })) c.end_object.ensures.ok
