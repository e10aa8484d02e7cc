use Rattle.std.proofs.Common.{◌+◌, ◌++◌, ◌∷◌, [], append_assoc, drop, map, sym, ap, ◌∙◌}
use Rattle.std.proofs.lemmas.List.{map-append}
use Rattle.json.specs.Value.{items_view}
use Rattle.tokei_json_tree.specs.Unordered.{unordered_items}
use Rattle.tokei_json_tree.proofs.Steps.{from_item}
use Rattle.tokei_notebook.specs.Cells.{cell_of, cells_in}
use Rattle.tokei_notebook.proofs.notebook.cells_in.Goals as goal

pub loop-item-preserved : goal.loop-item-preserved
loop-item-preserved c =
    let l = c.loop-item in
    let xs = c.deref-item-items.result.now in
    let cell = c.in_ok-cell.cell in
    let told = λ (ys : _). cells_in c.args.markdown c.args.code (unordered_items (items_view ys)) in
    let made = map cell_of l.cells.items in
    let rest = told (drop (l.item-index + 1) xs) in
    l.invariant
    ∙ ap (λ ys. made ++ told ys) (from_item xs l.item-index c.item-item.result c.loop-item-test.true c.item-item.is)
    ∙ ap (λ cs. made ++ (cs ++ rest)) (sym c.in_ok-cell.ensures)
    ∙ sym (append_assoc made (cell_of cell ∷ []) rest)
    ∙ ap (λ cs. cs ++ rest) (sym (map-append cell_of l.cells.items (cell ∷ [])))
    ∙ ap (λ cs. map cell_of cs ++ rest) (sym c.in_ok-push.ensures.items)
