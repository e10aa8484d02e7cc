use Rattle.std.proofs.Common.{sym, ap, ◌∙◌}
use Rattle.json.specs.Value.{items_view}
use Rattle.tokei_json_tree.specs.TreeData.{items_data}
use Rattle.tokei_table_json.specs.Escaped.{is_escaped_context}
use Rattle.tokei_json_tree.specs.Shapes.{all_items}
use Rattle.tokei_table_json.proofs.Left.{item_ordered, items_ordered, item_passes, item_fails, items_pass}
use Rattle.tokei_table_json.proofs.escaped.all_escaped_contexts.Goals as goal

pub is_escaped_context-requires : goal.is_escaped_context-requires
is_escaped_context-requires c = item_ordered c.deref-item-items.result.now c.loop-item.item-index c.item-item.result c.loop-item-test.true c.item-item.is c.loop-item.invariant.ordered

pub loop-item-preserved : goal.loop-item-preserved
loop-item-preserved c = record {
  ordered = items_ordered c.deref-item-items.result.now c.loop-item.item-index c.item-item.result c.loop-item-test.true c.item-item.is c.loop-item.invariant.ordered;
  value = item_passes is_escaped_context c.deref-item-items.result.now c.loop-item.item-index c.loop-item.invariant.value
      c.item-item.result c.loop-item-test.true c.item-item.is c.is_escaped_context.result c.is_escaped_context.ensures c.if-not-is_escaped_context.false;
}

pub returns-then-not-is_escaped_context : goal.returns-then-not-is_escaped_context
returns-then-not-is_escaped_context c =
    sym (ap (λ xs. all_items is_escaped_context (items_data (items_view xs))) (sym c.deref-item-items.ensures.value)
    ∙ item_fails is_escaped_context c.deref-item-items.result.now c.loop-item.item-index c.loop-item.invariant.value
    c.item-item.result c.loop-item-test.true c.item-item.is c.is_escaped_context.result c.is_escaped_context.ensures c.if-not-is_escaped_context.true)

pub returns : goal.returns
returns c =
    sym (ap (λ xs. all_items is_escaped_context (items_data (items_view xs))) (sym c.deref-item-items.ensures.value)
    ∙ items_pass is_escaped_context c.deref-item-items.result.now c.loop-item.item-index c.loop-item.invariant.value c.loop-item-test.false)
