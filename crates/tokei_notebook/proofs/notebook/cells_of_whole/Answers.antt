use Rattle.std.proofs.Common.{map, sym, ap, ◌∙◌}
use Rattle.tokei_notebook.specs.Cells.{cell_of, cells_of}
use Rattle.tokei_notebook.proofs.Shown.{none_without_value, not_memory}
use Rattle.tokei_notebook.proofs.notebook.cells_of_whole.Goals as goal

pub returns-in-Err-NotJson : goal.returns-in-Err-NotJson
returns-in-Err-NotJson c =
    let none = (c.in-Err-NotJson.ensures.refused (λ e. not_memory (sym c.in-Err-NotJson.field-0-is ∙ e))).1 in
    ap (map cell_of) c.new.ensures.items
    ∙ none_without_value c.args.table.now c.args.notebook
    ∙ sym (ap (cells_of c.args.table.now c.args.notebook) none)
