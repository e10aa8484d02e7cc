use Rattle.std.proofs.Common.{◌≡◌, ◌+◌, [], sym, ap, ◌∙◌, subst, drop}
use Rattle.json.specs.Value.{members_view}
use Rattle.tokei_earlier.specs.ReadReports.{put_named, with_children}
use Rattle.tokei_json.specs.LanguageMaps.{language_named}
use Rattle.tokei_json_tree.specs.TreeData.{members_data}
use Rattle.tokei_stats.specs.Reports.{children_of, reports_of}
use Rattle.tokei_json_tree.proofs.Left.{from, none_left}
use Rattle.tokei_earlier.proofs.reading.with_children.Goals as goal

pub reports_in-requires : goal.reports_in-requires
reports_in-requires c = (from c.loop-member.invariant c.member-item.result c.loop-member-test.true c.member-item.is).ordered.0

pub loop-member-preserved : goal.loop-member-preserved
loop-member-preserved c =
    let rows = c.args.table.now in
    let x = c.member-item.result in
    let before = children_of c.loop-member.children.entries in
    let read = c.in_ok-reports in
    let n = from c.loop-member.invariant x c.loop-member-test.true c.member-item.is in
    let behind = members_data (members_view (drop (c.loop-member.member-index + 1) c.deref-member-items.result.now)) in
    let put = c.in_ok-put_children.ensures
    ∙ ap (λ o. put_named o before (reports_of read.reports)) c.language.ensures.value
    ∙ ap (λ rs. put_named (language_named rows x.0.now) before rs) read.ensures in
    record { same = n.same ∙ ap (λ es. with_children rows behind es) (sym put); ordered = n.ordered.1 }

pub returns : goal.returns
returns c =
    let read = children_of c.loop-member.children.entries in
    sym (subst (λ ys. with_children c.args.table.now (members_data (members_view ys)) [] ≡ read) c.deref-member-items.ensures.value
    (none_left c.loop-member.invariant c.loop-member-test.false))
