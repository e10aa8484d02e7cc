use Rattle.std.proofs.Common.{◌≡◌, ◌∙◌, ap, sym, subst, map, is_some, is_err, codes}
use Rattle.std.specs.Result.{IfOk}
use Rattle.std.specs.Option.{IfSome}
use Rattle.json.specs.Value.{value_view}
use Rattle.serde_json.specs.Find.{get}
use Rattle.tokei_json_tree.specs.TreeData.{data_of}
use Rattle.tokei_table.specs.KeyOrder.{IsInKeyOrder}
use Rattle.tokei_table_row.specs.RowOf.{row_of}
use Rattle.tokei_table_json.specs.Flaws.{Tells}
use Rattle.tokei_table_json.specs.Outcome.{tested}
use Rattle.tokei_table_json.specs.Rows.{rows_at}
use Rattle.tokei_table_json.proofs.Readings.{outcome_of_rows, flawed_rows}
use Rattle.tokei_table_json.proofs.flaw.reading_flaw.Goals as goal

pub row_flaw-requires : goal.row_flaw-requires
row_flaw-requires c = subst (λ xs. IsInKeyOrder (map row_of xs)) (sym c.deref.ensures.value) c.in_ok-rows.ensures.ordered

pub returns-clause-tells : goal.returns-clause-tells
returns-clause-tells c =
    let d = data_of (value_view c.args.read.now.tree) in
    let rows = rows_at (get (codes "languages") d) in
    let read : map row_of c.deref.result.now ≡ rows = ap (map row_of) c.deref.ensures.value ∙ c.in_ok-rows.ensures.value in
    subst (λ t. IfOk c.row_flaw.result (λ o. IfSome o (Tells t rows)))
    (outcome_of_rows d (sym c.has_layout.ensures ∙ c.if-not-has_layout.false)
    (sym c.is_escaped_table.ensures ∙ c.if-not-is_escaped_table.false))
    (subst (λ rs. IfOk c.row_flaw.result (λ o. IfSome o (Tells (tested rs) rs))) read c.row_flaw.ensures.tells)

pub returns-clause-found : goal.returns-clause-found
returns-clause-found c =
    let d = data_of (value_view c.args.read.now.tree) in
    let rows = rows_at (get (codes "languages") d) in
    let read : map row_of c.deref.result.now ≡ rows = ap (map row_of) c.deref.ensures.value ∙ c.in_ok-rows.ensures.value in
    subst (λ b. IfOk c.row_flaw.result (λ o. is_some o ≡ b))
    (flawed_rows d (sym c.has_layout.ensures ∙ c.if-not-has_layout.false)
    (sym c.is_escaped_table.ensures ∙ c.if-not-is_escaped_table.false))
    (subst (λ rs. IfOk c.row_flaw.result (λ o. is_some o ≡ is_err (tested rs))) read c.row_flaw.ensures.found)
