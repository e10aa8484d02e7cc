use Rattle.std.proofs.Common.{sym, ap, ◌∙◌}
use Rattle.json.specs.Value.{items_view}
use Rattle.tokei_json_tree.specs.TreeData.{items_data}
use Rattle.tokei_table_json.specs.Layout.{is_text_pair}
use Rattle.tokei_json_tree.specs.Shapes.{all_items}
use Rattle.tokei_table_json.proofs.Left.{item_passes, item_fails, items_pass}
use Rattle.tokei_table_json.proofs.layout.all_pairs.Goals as goal

pub loop-item-preserved : goal.loop-item-preserved
loop-item-preserved c =
    item_passes is_text_pair c.deref-item-items.result.now c.loop-item.item-index c.loop-item.invariant
    c.item-item.result c.loop-item-test.true c.item-item.is c.is_text_pair.result c.is_text_pair.ensures c.if-not-is_text_pair.false

pub returns-then-not-is_text_pair : goal.returns-then-not-is_text_pair
returns-then-not-is_text_pair c =
    sym (ap (λ xs. all_items is_text_pair (items_data (items_view xs))) (sym c.deref-item-items.ensures.value)
    ∙ item_fails is_text_pair c.deref-item-items.result.now c.loop-item.item-index c.loop-item.invariant
    c.item-item.result c.loop-item-test.true c.item-item.is c.is_text_pair.result c.is_text_pair.ensures c.if-not-is_text_pair.true)

pub returns : goal.returns
returns c =
    sym (ap (λ xs. all_items is_text_pair (items_data (items_view xs))) (sym c.deref-item-items.ensures.value)
    ∙ items_pass is_text_pair c.deref-item-items.result.now c.loop-item.item-index c.loop-item.invariant c.loop-item-test.false)
