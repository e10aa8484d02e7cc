use Rattle.std.proofs.Common.{arith}
use Rattle.tokei_table_rules.proofs.TextGroups.{none_summed, sum_within, one_summed, all_summed}
use Rattle.tokei_table_rules.proofs.text_index.begins_of.Goals as goal

pub loop-group-init : goal.loop-group-init
loop-group-init c = none_summed c.args.entries.now c.in_ok-begins.begins.items c.in_ok-begins.ensures

pub overflow_add-end : goal.overflow_add-end
overflow_add-end c =
    let within = sum_within c.args.entries.now c.loop-group.begins.items c.loop-group.group c.loop-group.end
    c.index-count.result.now c.loop-group-test.true c.loop-group.invariant c.index-count.ensures in
    omega (arith, within)

pub loop-group-preserved : goal.loop-group-preserved
loop-group-preserved c =
    one_summed c.args.entries.now c.loop-group.begins.items c.loop-group.group c.loop-group.end
    c.index-count.result.now c.loop-group-test.true c.loop-group.invariant c.index-count.ensures

pub returns : goal.returns
returns c =
    all_summed c.args.entries.now c.loop-group.begins.items c.loop-group.group c.loop-group.end
    (omega arith) c.loop-group.invariant
