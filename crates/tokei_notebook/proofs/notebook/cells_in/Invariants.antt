use Rattle.std.proofs.Common.{◌≡◌, ◌++◌, drop, map}
use Rattle.json.specs.Value.{items_view}
use Rattle.tokei_json_tree.specs.Unordered.{unordered_items}
use Rattle.tokei_notebook.specs.Cells.{cell_of, cells_in}
use Rattle.tokei_notebook.proofs.notebook.cells_in.Given as goal

abbrev pub invariant-loop-item : goal.invariant-loop-item
invariant-loop-item l =
    cells_in l.markdown l.code (unordered_items (items_view l.item-items))
    ≡ map cell_of l.cells.items ++ cells_in l.markdown l.code (unordered_items (items_view (drop l.item-index l.item-items)))
