use Rattle.std.proofs.Common.{ap, map, ◌≡◌, ◌∙◌, subst, codes}
use Rattle.tokei_table_row.specs.RowOf.{row_of}
use Rattle.tokei_table_json.proofs.KeyOrder.{order_of_none}
use Rattle.std.specs.Result.{IfOk}
use Rattle.json.specs.Value.{value_view, members_view}
use Rattle.serde_json.specs.Find.{get}
use Rattle.tokei_json_tree.specs.TreeData.{data_of, members_data}
use Rattle.tokei_table_json.proofs.Readings.{object_rows, no_rows}
use Rattle.tokei_table_json.proofs.rows.rows_of.Goals as goal

pub returns-in-None-clause-ordered : goal.returns-in-None-clause-ordered
returns-in-None-clause-ordered c = order_of_none (map row_of c.new.result.items) (ap (map row_of) c.new.ensures.items)

pub returns-in-None-clause-value : goal.returns-in-None-clause-value
returns-in-None-clause-value c =
    ap (map row_of) c.new.ensures.items
    ∙ no_rows (get (codes "languages") (data_of (value_view c.args.table.now))) c.in-None.ensures.value

pub returns-in-Some-clause-value : goal.returns-in-Some-clause-value
returns-in-Some-clause-value c =
    subst (λ rs. IfOk c.rows.result (λ v. map row_of v.items ≡ rs))
    (object_rows (get (codes "languages") (data_of (value_view c.args.table.now))) (members_data (members_view c.in-Some.languages.now.items)) c.in-Some.ensures.value)
    c.rows.ensures.value
