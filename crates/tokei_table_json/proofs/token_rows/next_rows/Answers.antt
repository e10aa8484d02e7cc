use Rattle.std.proofs.Common.{◌<◌, Some, IfSome, length, map, ap, ◌∙◌, subst, option_map, rules, arith}
use Rattle.json.proofs.Grammar.{read_key-shorter}
use Rattle.tokei_table_row.specs.RowOf.{row_of}
use Rattle.tokei_table_json.specs.Escaped.{is_escaped_language}
use Rattle.tokei_table_json.specs.Layout.{is_language}
use Rattle.tokei_table_json.specs.Next.{IsNext}
use Rattle.tokei_table_json.specs.Rows.{row_in}
use Rattle.tokei_table_json.proofs.Made.{made_longer}
use Rattle.tokei_table_json.proofs.Next.{shorter}
use Rattle.tokei_table_json.proofs.NextRows.{one_row_read, all_rows_read}
use Rattle.tokei_table_json.proofs.token_rows.next_rows.Goals as goal

pub returns-in-Ok-None : goal.returns-in-Ok-None
returns-in-Ok-None c =
    let l = c.loop-made in
    let r = c.next_key.new.self in
    let key = c.in-Ok-None.ensures.value ∙ ap (λ k. Some (option_map (λ s. s.now) k, r)) c.in-Ok-None.field-0-is in
    all_rows_read 125 c.args.reader.now l.reader r l.last (map row_of l.made.items) l.invariant key

pub loop-made-smaller : goal.loop-made-smaller
loop-made-smaller c =
    let now = c.loop-made.reader in
    let s = c.next_key.new.self in
    let r = c.next_row.new.reader in
    let k = c.in-Ok-Some.key.now in
    let key = c.in-Ok-Some.ensures.value ∙ ap (λ k. Some (option_map (λ s. s.now) k, s)) c.in-Ok-Some.field-0-is in
    let fewer = read_key-shorter now (Some k) s key in
    let next = subst (λ o. IfSome o (λ x. IsNext is_language is_escaped_language (row_in k) 125 s r (row_of x))) c.in-Some.is c.in_ok-row-in-Ok-Some.ensures in
    let fewest = shorter 125 s r (row_of c.in-Some.row) next in
    let less : length r < length now = omega arith in
    less

pub loop-made-preserved : goal.loop-made-preserved
loop-made-preserved c =
    let l = c.loop-made in
    let s = c.next_key.new.self in
    let r = c.next_row.new.reader in
    let k = c.in-Ok-Some.key.now in
    let key = c.in-Ok-Some.ensures.value ∙ ap (λ k. Some (option_map (λ s. s.now) k, s)) c.in-Ok-Some.field-0-is in
    let next = subst (λ o. IfSome o (λ x. IsNext is_language is_escaped_language (row_in k) 125 s r (row_of x))) c.in-Some.is c.in_ok-row-in-Ok-Some.ensures in
    one_row_read 125 c.args.reader.now l.reader s r l.last c.in-Ok-Some.key (map row_of l.made.items) (map row_of c.push.new.self.items) (row_of c.in-Some.row)
    l.invariant key (c.ascends.ensures (search rules)) next (made_longer row_of l.made.items c.push.new.self.items c.in-Some.row c.in_ok-push-in-Ok-Some.ensures.items)
