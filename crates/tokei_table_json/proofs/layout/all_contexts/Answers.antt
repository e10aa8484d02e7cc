use Rattle.std.proofs.Common.{sym, ap, ◌∙◌}
use Rattle.json.specs.Value.{items_view}
use Rattle.tokei_json_tree.specs.TreeData.{items_data}
use Rattle.tokei_table_json.specs.Layout.{is_context}
use Rattle.tokei_json_tree.specs.Shapes.{all_items}
use Rattle.tokei_table_json.proofs.Left.{item_ordered, items_ordered, item_passes, item_fails, items_pass}
use Rattle.tokei_table_json.proofs.layout.all_contexts.Goals as goal

pub is_context-requires : goal.is_context-requires
is_context-requires c = item_ordered c.deref-item-items.result.now c.loop-item.item-index c.item-item.result c.loop-item-test.true c.item-item.is c.loop-item.invariant.ordered

pub loop-item-preserved : goal.loop-item-preserved
loop-item-preserved c = record {
  ordered = items_ordered c.deref-item-items.result.now c.loop-item.item-index c.item-item.result c.loop-item-test.true c.item-item.is c.loop-item.invariant.ordered;
  value = item_passes (is_context c.args.html) c.deref-item-items.result.now c.loop-item.item-index c.loop-item.invariant.value
      c.item-item.result c.loop-item-test.true c.item-item.is c.is_context.result c.is_context.ensures c.if-not-is_context.false;
}

pub returns-then-not-is_context : goal.returns-then-not-is_context
returns-then-not-is_context c =
    sym (ap (λ xs. all_items (is_context c.args.html) (items_data (items_view xs))) (sym c.deref-item-items.ensures.value)
    ∙ item_fails (is_context c.args.html) c.deref-item-items.result.now c.loop-item.item-index c.loop-item.invariant.value
    c.item-item.result c.loop-item-test.true c.item-item.is c.is_context.result c.is_context.ensures c.if-not-is_context.true)

pub returns : goal.returns
returns c =
    sym (ap (λ xs. all_items (is_context c.args.html) (items_data (items_view xs))) (sym c.deref-item-items.ensures.value)
    ∙ items_pass (is_context c.args.html) c.deref-item-items.result.now c.loop-item.item-index c.loop-item.invariant.value c.loop-item-test.false)
