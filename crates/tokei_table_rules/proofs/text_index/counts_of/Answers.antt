use Rattle.std.proofs.Common.{◌<◌, arith}
use Rattle.tokei_table_rules.proofs.TextGroups.{none_counted, all_counted, count_within, item_counted}
use Rattle.tokei_table_rules.proofs.text_index.counts_of.Goals as goal

pub overflow_add-index_mut : goal.overflow_add-index_mut
overflow_add-index_mut c =
    let below : c.from.result < 256 = omega arith in
    let within = count_within c.args.entries.now c.loop-group.counts.items c.loop-group.group-index c.from.result
    c.index_mut.result.now c.loop-group-test.true c.loop-group.invariant c.from.ensures below c.index_mut.ensures.value in
    omega (arith, within)

pub loop-group-preserved : goal.loop-group-preserved
loop-group-preserved c =
    let below : c.from.result < 256 = omega arith in
    item_counted c.args.entries.now c.loop-group.counts.items c.loop-group.group-index c.from.result
    c.index_mut.result.now c.loop-group-test.true c.loop-group.invariant c.from.ensures below c.index_mut.ensures.value

pub index_mut-requires : goal.index_mut-requires
index_mut-requires c =
    let below : c.from.result < 256 = omega arith in
    omega (arith, c.loop-group.invariant.all)

pub returns : goal.returns
returns c =
    all_counted c.args.entries.now c.loop-group.counts.items c.loop-group.group-index c.loop-group-test.false
    c.loop-group.invariant

pub loop-group-init : goal.loop-group-init
loop-group-init c =
    none_counted c.args.entries.now c.in_ok-counts.counts.items
    (c.in_ok-counts.ensures.items_if_clones_equal (λ y same. same))
