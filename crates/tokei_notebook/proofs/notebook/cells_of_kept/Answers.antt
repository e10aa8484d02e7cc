use Rattle.std.proofs.Common.{Some, sym, ap, ◌∙◌}
use Rattle.tokei_json_tree.specs.Unordered.{unordered_data}
use Rattle.tokei_notebook.specs.Cells.{cells_of}
use Rattle.tokei_notebook.proofs.KeptCells.{of_kept}
use Rattle.tokei_notebook.proofs.notebook.cells_of_kept.Goals as goal

pub returns-in-Ok : goal.returns-in-Ok
returns-in-Ok c =
    let whole = c.in-Ok.ensures in
    let told = cells_of c.args.table.now c.args.notebook in
    c.in_ok-cells_of-in-Ok.ensures
    ∙ ap (λ j. told (Some (unordered_data j))) (sym whole.2)
    ∙ of_kept c.args.table.now c.args.notebook whole.0
    ∙ ap told (sym whole.1)
