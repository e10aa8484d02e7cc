use Rattle.std.proofs.Common.{sym, ap, ◌∙◌}
use Rattle.json.specs.Value.{items_view}
use Rattle.tokei_json_tree.specs.TreeData.{items_data}
use Rattle.tokei_table_json.specs.Escaped.{is_escaped_value}
use Rattle.tokei_json_tree.specs.Shapes.{all_items}
use Rattle.tokei_table_json.proofs.Left.{item_passes, item_fails, items_pass}
use Rattle.tokei_table_json.proofs.escaped.all_escaped.Goals as goal

pub loop-item-preserved : goal.loop-item-preserved
loop-item-preserved c =
    item_passes is_escaped_value c.deref-item-items.result.now c.loop-item.item-index c.loop-item.invariant
    c.item-item.result c.loop-item-test.true c.item-item.is c.is_escaped_value.result c.is_escaped_value.ensures c.if-not-is_escaped_value.false

pub returns-then-not-is_escaped_value : goal.returns-then-not-is_escaped_value
returns-then-not-is_escaped_value c =
    sym (ap (λ xs. all_items is_escaped_value (items_data (items_view xs))) (sym c.deref-item-items.ensures.value)
    ∙ item_fails is_escaped_value c.deref-item-items.result.now c.loop-item.item-index c.loop-item.invariant
    c.item-item.result c.loop-item-test.true c.item-item.is c.is_escaped_value.result c.is_escaped_value.ensures c.if-not-is_escaped_value.true)

pub returns : goal.returns
returns c =
    sym (ap (λ xs. all_items is_escaped_value (items_data (items_view xs))) (sym c.deref-item-items.ensures.value)
    ∙ items_pass is_escaped_value c.deref-item-items.result.now c.loop-item.item-index c.loop-item.invariant c.loop-item-test.false)
