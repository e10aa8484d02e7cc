use Rattle.std.proofs.Common.{◌&&◌, refl, sym, ap, ◌∙◌, subst, rules, bytes_eq, codes}
use Rattle.json.specs.Value.{members_view, value_view}
use Rattle.json.specs.declared.value.Value.{the_lemmas}
use Rattle.tokei_json_tree.specs.Ordered.{IsOrdered}
use Rattle.tokei_json_tree.specs.TreeData.{data_of, members_data}
use Rattle.tokei_json.specs.LanguageMaps.{blobs_pass, each_passes, passes, statistics_pass}
use Rattle.tokei_json_tree.proofs.Left.{failed, found, from, none_left, object_seen, passed, skipped}
use Rattle.tokei_json.proofs.language_maps.+statistics.Goals as goal

pub statistics_pass-loop-member-init : goal.statistics_pass-loop-member-init
statistics_pass-loop-member-init t c =
    record { same = refl; ordered = (subst IsOrdered (object_seen _ _ _ c.in-Object.is c.deref-member-items.ensures.value) c.requires).1 }

pub statistics_pass-blobs_pass-requires : goal.statistics_pass-blobs_pass-requires
statistics_pass-blobs_pass-requires t c =
    (search (rules, the_lemmas), (from c.loop-member.invariant c.member-item.result c.loop-member-test.true c.member-item.is).ordered.0)

pub statistics_pass-loop-member-preserved : goal.statistics_pass-loop-member-preserved
statistics_pass-loop-member-preserved t c =
    let test = passes c.args.table.now c.args.test in
    let x = c.member-item.result in
    let n = from c.loop-member.invariant x c.loop-member-test.true c.member-item.is in
    skipped n (bytes_eq x.0.now (codes "blobs")) (blobs_pass test (data_of (value_view x.1))) refl (sym c.eq.ensures ∙ c.if-eq.false) n.ordered.1

pub statistics_pass-returns-then-eq : goal.statistics_pass-returns-then-eq
statistics_pass-returns-then-eq t c =
    let test = passes c.args.table.now c.args.test in
    let x = c.member-item.result in
    let n = from c.loop-member.invariant x c.loop-member-test.true c.member-item.is in
    let seen = object_seen _ _ _ c.in-Object.is c.deref-member-items.ensures.value in
    c.blobs_pass.ensures ∙ sym (ap (λ j. statistics_pass test (data_of j)) seen
    ∙ found n (bytes_eq x.0.now (codes "blobs")) (blobs_pass test (data_of (value_view x.1))) refl (sym c.eq.ensures ∙ c.if-eq.true))

pub statistics_pass-returns-after-loop-member : goal.statistics_pass-returns-after-loop-member
statistics_pass-returns-after-loop-member t c =
    let test = passes c.args.table.now c.args.test in
    let seen = object_seen _ _ _ c.in-Object.is c.deref-member-items.ensures.value in
    sym (ap (λ j. statistics_pass test (data_of j)) seen ∙ none_left c.loop-member.invariant c.loop-member-test.false)

pub blobs_pass-loop-member-init : goal.blobs_pass-loop-member-init
blobs_pass-loop-member-init t c =
    record { same = refl; ordered = (subst IsOrdered (object_seen _ _ _ c.in-Object.is c.deref-member-items.ensures.value) c.requires).1 }

pub blobs_pass-statistics_pass-requires : goal.blobs_pass-statistics_pass-requires
blobs_pass-statistics_pass-requires t c =
    (search (rules, the_lemmas), (from c.loop-member.invariant c.member-item.result c.loop-member-test.true c.member-item.is).ordered.0)

pub blobs_pass-loop-member-preserved : goal.blobs_pass-loop-member-preserved
blobs_pass-loop-member-preserved t c =
    let test = passes c.args.table.now c.args.test in
    let x = c.member-item.result in
    let n = from c.loop-member.invariant x c.loop-member-test.true c.member-item.is in
    passed n (statistics_pass test (data_of (value_view x.1))) refl (sym c.statistics_pass.ensures ∙ c.if-not-statistics_pass.false) n.ordered.1

pub blobs_pass-returns-then-not-statistics_pass : goal.blobs_pass-returns-then-not-statistics_pass
blobs_pass-returns-then-not-statistics_pass t c =
    let test = passes c.args.table.now c.args.test in
    let x = c.member-item.result in
    let xs = c.deref-member-items.result.now in
    let n = from c.loop-member.invariant x c.loop-member-test.true c.member-item.is in
    let seen = object_seen _ _ xs c.in-Object.is c.deref-member-items.ensures.value in
    let itself = ap (λ j. test (data_of j)) (sym seen) ∙ sym c.passes.ensures ∙ c.if-not-passes.false in
    sym (ap (λ j. blobs_pass test (data_of j)) seen ∙ ap (λ b. b && each_passes test (members_data (members_view xs))) itself
    ∙ failed n (statistics_pass test (data_of (value_view x.1))) refl (sym c.statistics_pass.ensures ∙ c.if-not-statistics_pass.true))

pub blobs_pass-returns-after-loop-member : goal.blobs_pass-returns-after-loop-member
blobs_pass-returns-after-loop-member t c =
    let test = passes c.args.table.now c.args.test in
    let xs = c.deref-member-items.result.now in
    let seen = object_seen _ _ xs c.in-Object.is c.deref-member-items.ensures.value in
    let itself = ap (λ j. test (data_of j)) (sym seen) ∙ sym c.passes.ensures ∙ c.if-not-passes.false in
    sym (ap (λ j. blobs_pass test (data_of j)) seen ∙ ap (λ b. b && each_passes test (members_data (members_view xs))) itself
    ∙ none_left c.loop-member.invariant c.loop-member-test.false)
