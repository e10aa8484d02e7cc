use Rattle.std.proofs.Common.{◌≡◌, true, false, true≢false, ap, sym, ◌∙◌, rules, arith}
use Rattle.tokei_table_row.specs.Row.{is_html}
use Rattle.tokei_table_row.specs.RowOf.{row_of, tokens_of}
use Rattle.tokei_table_json.proofs.NextRows.{language_next, with_tags, untagged}
use Rattle.tokei_table_json.proofs.token_rows.next_row.Goals as goal
use Rattle.tokei_table_json.proofs.token_rows.next_row.Goals.{then-not-is_html, else-not-is_html}

pub returns : goal.returns
returns c =
    let read = c.put_members.new.row in
    let tagged : is_html (row_of read) ≡ true → row_of c.if-not-is_html.row ≡ row_of read =
    λ h. elim c.if-not-is_html.branch [
      | then-not-is_html w ↦ absurd (true≢false (sym h ∙ sym c.is_html.ensures ∙ w.if-not-is_html.true))
      | else-not-is_html w ↦ ap row_of w.row-is
    ] in
    let other : is_html (row_of read) ≡ false → row_of c.if-not-is_html.row ≡ untagged (row_of read) =
    λ h. elim c.if-not-is_html.branch [
      | then-not-is_html w ↦ ap row_of w.row-is ∙ ap (λ v. with_tags (tokens_of v) (row_of read)) w.new-then-not-is_html.ensures.items
      | else-not-is_html w ↦ absurd (true≢false (sym w.if-not-is_html.false ∙ c.is_html.ensures ∙ h))
    ] in
    language_next c.args.key.now 125 c.args.reader.now c.begins_object.new.reader c.put_members.new.reader (row_of c.in_ok-row.row) (row_of read) (row_of c.if-not-is_html.row)
    (omega arith) c.in_ok-row.ensures (c.begins_object.ensures (search rules)) (c.in_ok-put_members.ensures (search rules)) tagged other
