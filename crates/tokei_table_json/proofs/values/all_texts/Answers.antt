use Rattle.std.proofs.Common.{sym, ap, ◌∙◌}
use Rattle.json.specs.Value.{items_view}
use Rattle.tokei_json_tree.specs.TreeData.{items_data}
use Rattle.tokei_json_tree.specs.Shapes.{all_items, is_text}
use Rattle.tokei_table_json.proofs.Left.{item_passes, item_fails, items_pass}
use Rattle.tokei_table_json.proofs.values.all_texts.Goals as goal

pub loop-item-preserved : goal.loop-item-preserved
loop-item-preserved c =
    item_passes is_text c.deref-item-items.result.now c.loop-item.item-index c.loop-item.invariant
    c.item-item.result c.loop-item-test.true c.item-item.is c.is_text.result c.is_text.ensures c.if-not-is_text.false

pub returns-then-not-is_text : goal.returns-then-not-is_text
returns-then-not-is_text c =
    sym (ap (λ xs. all_items is_text (items_data (items_view xs))) (sym c.deref-item-items.ensures.value)
    ∙ item_fails is_text c.deref-item-items.result.now c.loop-item.item-index c.loop-item.invariant
    c.item-item.result c.loop-item-test.true c.item-item.is c.is_text.result c.is_text.ensures c.if-not-is_text.true)

pub returns : goal.returns
returns c =
    sym (ap (λ xs. all_items is_text (items_data (items_view xs))) (sym c.deref-item-items.ensures.value)
    ∙ items_pass is_text c.deref-item-items.result.now c.loop-item.item-index c.loop-item.invariant c.loop-item-test.false)
