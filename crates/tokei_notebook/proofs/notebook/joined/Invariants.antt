use Rattle.std.proofs.Common.{◌≡◌, ◌++◌, drop}
use Rattle.json.specs.Value.{items_view}
use Rattle.tokei_json_tree.specs.Unordered.{unordered_items}
use Rattle.tokei_notebook.specs.Cells.{joined}
use Rattle.tokei_notebook.proofs.notebook.joined.Given as goal

abbrev pub invariant-loop-item : goal.invariant-loop-item
invariant-loop-item l = joined (unordered_items (items_view l.item-items)) ≡ l.text.items ++ joined (unordered_items (items_view (drop l.item-index l.item-items)))
