use Rattle.std.proofs.Common.{map}
use Rattle.tokei_table_row.specs.RowOf.{row_of}
use Rattle.tokei_table_json.proofs.PlainTables.{outcome_of_text}
use Rattle.tokei_table_json.proofs.reading.rows_of_text.Goals as goal

pub returns-in-Ok-Some-clause-value : goal.returns-in-Ok-Some-clause-value
returns-in-Ok-Some-clause-value c never =
    outcome_of_text c.args.text.now (map row_of c.in-Ok-Some.rows.items) (rw c.in-Ok-Some.field-0-is at c.in-Ok-Some.ensures)
