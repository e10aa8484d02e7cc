use Rattle.std.proofs.Common.{◌≡◌, drop}
use Rattle.json.specs.Value.{items_view}
use Rattle.tokei_json_tree.specs.Unordered.{unordered_items}
use Rattle.tokei_json_tree.specs.Shapes.{all_items, is_text}
use Rattle.tokei_notebook.proofs.layout.all_texts.Given as goal

abbrev pub invariant-loop-item : goal.invariant-loop-item
invariant-loop-item l =
    all_items is_text (unordered_items (items_view l.item-items)) ≡ all_items is_text (unordered_items (items_view (drop l.item-index l.item-items)))
