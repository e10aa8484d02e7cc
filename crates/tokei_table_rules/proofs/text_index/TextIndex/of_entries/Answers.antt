use Rattle.std.proofs.Common.{◌<◌, subst, arith}
use Rattle.std.proofs.lemmas.List.{at_drop_all}
use Rattle.tokei_table_rules.proofs.TextGroups.{AreReached, item_within, item_put, none_put, all_put, ends_put}
use Rattle.tokei_table_rules.proofs.text_index.TextIndex.of_entries.Goals as goal

pub index_mut-requires : goal.index_mut-requires
index_mut-requires c =
    let below : c.from-group.result < 256 = omega arith in
    let within = item_within c.args.entries.now c.loop-group.ends.items c.loop-group.places.items c.loop-group.group-index
    c.from-group.result c.loop-group-test.true c.loop-group.invariant c.from-group.ensures below
    c.index.result.now c.index.ensures in
    omega (arith, within, c.loop-group.invariant.full)

pub overflow_add-index_mut : goal.overflow_add-index_mut
overflow_add-index_mut c =
    let below : c.from-group.result < 256 = omega arith in
    let within = item_within c.args.entries.now c.loop-group.ends.items c.loop-group.places.items c.loop-group.group-index
    c.from-group.result c.loop-group-test.true c.loop-group.invariant c.from-group.ensures below
    c.index_mut-in-loop-group.result.now c.index_mut-in-loop-group.ensures.value in
    omega (arith, within)

pub loop-group-preserved : goal.loop-group-preserved
loop-group-preserved c =
    let below : c.from-group.result < 256 = omega arith in
    item_put c.args.entries.now c.loop-group.ends.items c.loop-group.places.items c.loop-group.group-index
    c.from-group.result c.loop-group-test.true c.loop-group.invariant c.from-group.ensures below
    c.index.result.now c.index_mut-in-loop-group.result.now c.index.ensures c.index_mut-in-loop-group.ensures.value

pub invariant_of-result : goal.invariant_of-result
invariant_of-result c =
    let e = at_drop_all (λ rest. rest) c.args.entries.now c.loop-group.group-index c.loop-group-test.false in
    ends_put c.args.entries.now c.loop-group.ends.items c.loop-group.places.items
    (subst (λ rest. AreReached c.args.entries.now rest c.loop-group.ends.items c.loop-group.places.items) e c.loop-group.invariant)

pub returns : goal.returns
returns c =
    let e = at_drop_all (λ rest. rest) c.args.entries.now c.loop-group.group-index c.loop-group-test.false in
    all_put c.args.entries.now c.loop-group.ends.items c.loop-group.places.items
    (subst (λ rest. AreReached c.args.entries.now rest c.loop-group.ends.items c.loop-group.places.items) e c.loop-group.invariant)

pub loop-group-init : goal.loop-group-init
loop-group-init c =
    none_put c.args.entries.now c.args.ends.items c.args.places.items c.requires.begins c.requires.room
