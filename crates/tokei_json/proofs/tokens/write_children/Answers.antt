use Rattle.std.proofs.Common.{◌≡◌, map, rules, subst, Vec, Global}
use Rattle.std.proofs.lemmas.Result.{on_ok_weaker}
use Rattle.serde_json.specs.Data.{no_members, member}
use Rattle.tokei_json.specs.ReportData.{reports_data}
use Rattle.tokei_json.specs.Tokens.{IsMember, children_members}
use Rattle.tokei_stats.specs.Reports.{report_of, reports_of}
use Rattle.tokei_stats.specs.declared.report.Report.{Report}
use Rattle.tokei_json.proofs.Naming.{now_of, ascend}
use Rattle.tokei_json.proofs.Writing.{lacks_all, lacks_fewer, object_written, LacksMembers}
use Rattle.tokei_json.proofs.tokens.write_children.Goals as goal

pub loop-name-init : goal.loop-name-init
loop-name-init c = lacks_all _ _

pub loop-name-preserved : goal.loop-name-preserved
loop-name-preserved c =
    let rows = c.args.table.now in
    let l = c.loop-name in
    let d = reports_data rows (reports_of c.in-Some.reports.now.now) in
    let seen : c.as_slice.result.now ≡ c.in-Some.reports.now.now.items = search rules in
    let all = children_members rows c.into_iter-name-iterator.result in
    let left : LacksMembers all (member c.in-Some.name.now.now d (children_members rows c.next.new.self)) c.begin_object.new.self l.out =
    subst (λ fs. LacksMembers all (children_members rows fs) c.begin_object.new.self l.out) c.in-Some.ensures.steps l.invariant in
    lacks_fewer all c.in-Some.name.now.now d (children_members rows c.next.new.self) c.begin_object.new.self l.out c.write_reports.new.out left
    (subst (λ xs. IsMember c.in-Some.name.now.now (reports_data rows (map report_of xs)) l.out c.write_reports.new.out) seen c.in_ok-write_reports.ensures)

pub returns : goal.returns
returns c =
    let rows = c.args.table.now in
    let l = c.loop-name in
    let entries = c.args.children.now.entries in
    let all = children_members rows entries in
    let begun : c.into_iter-name-iterator.result ≡ entries = c.into_iter-name-iterator.ensures.into_iter_gives.0 in
    let left : LacksMembers all no_members c.begin_object.new.self l.out =
    subst (λ fs. LacksMembers all (children_members rows fs) c.begin_object.new.self l.out) c.in-None.ensures.steps.0
    (subst (λ fs. LacksMembers (children_members rows fs) (children_members rows l.name-iterator) c.begin_object.new.self l.out) begun l.invariant) in
    on_ok_weaker c.end_object.result (λ e.
    object_written all c.args.out.now c.begin_object.new.self l.out c.end_object.new.self
    (ascend now_of (λ (v : Vec Report Global). reports_data rows (reports_of v)) entries c.into_iter-name-iterator.ensures.into_iter_gives.5)
    c.in_ok-begin_object.ensures.ok c.in_ok-begin_object.ensures.room.0 left e c.end_object.ensures.room.0) c.end_object.ensures.ok
