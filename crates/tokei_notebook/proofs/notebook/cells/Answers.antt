use Rattle.std.proofs.Common.{◌≡◌, length, map, sym, ap, ◌∙◌, subst, IfSome}
use Rattle.serde_json.specs.Read.{read}
use Rattle.tokei_notebook.specs.Cells.{cell_of, cells_of, AreKnown}
use Rattle.tokei_notebook.proofs.KnownCells.{notebook_known}
use Rattle.tokei_notebook.proofs.Shown.{cells_of_text, if_ok, none_without_text}
use Rattle.tokei_notebook.proofs.notebook.cells.Goals as goal

pub returns-in-Err-clause-value : goal.returns-in-Err-clause-value
returns-in-Err-clause-value c =
    ap (map cell_of) c.new.ensures.items
    ∙ none_without_text c.args.table.now c.args.notebook c.args.text.now c.in-Err.ensures.cases.0

pub returns-in-Some-clause-value : goal.returns-in-Some-clause-value
returns-in-Some-clause-value c =
    subst (λ o. IfSome o (λ v. map cell_of v.items ≡ cells_of c.args.table.now c.args.notebook (read c.in-Ok.text.now))) c.in-Some.is c.in_ok-cells.ensures
    ∙ cells_of_text c.args.table.now c.args.notebook c.args.text.now c.in-Ok.text.now c.in-Ok.ensures.cases

pub returns-in-Some-clause-known : goal.returns-in-Some-clause-known
returns-in-Some-clause-known c =
    subst (AreKnown (length c.args.table.now)) (sym (returns-in-Some-clause-value c))
    (notebook_known c.args.table.now c.args.notebook c.requires c.args.text.now)

pub returns-in-None-clause-value : goal.returns-in-None-clause-value
returns-in-None-clause-value c =
    if_ok c.cells_of_whole.result
    (λ v e. e ∙ cells_of_text c.args.table.now c.args.notebook c.args.text.now c.in-Ok.text.now c.in-Ok.ensures.cases)
    c.cells_of_whole.ensures

pub returns-in-None-clause-known : goal.returns-in-None-clause-known
returns-in-None-clause-known c =
    if_ok c.cells_of_whole.result
    (λ v e. subst (AreKnown (length c.args.table.now)) (sym e)
    (notebook_known c.args.table.now c.args.notebook c.requires c.args.text.now))
    (returns-in-None-clause-value c)
