use Rattle.std.proofs.Common.{map, sym, ◌∙◌, rules}
use Rattle.tokei_table_row.specs.RowOf.{row_of}
use Rattle.tokei_table_json.proofs.Next.{if_some_weaker}
use Rattle.tokei_table_json.proofs.NextRows.{table_text}
use Rattle.tokei_table_json.proofs.token_rows.rows_in_order.Goals as goal

pub returns : goal.returns
returns c =
    if_some_weaker c.in_ok-rows.rows (λ v h. table_text c.args.text.now c.begins_object.new.reader c.begins_member.new.reader c.next_rows.new.reader (map row_of v.items)
    (sym c.in_ok-reader.ensures.ok ∙ c.begins_object.ensures (search rules)) (c.begins_member.ensures (search rules)) h (c.ends.ensures (search rules))) c.in_ok-rows.ensures
