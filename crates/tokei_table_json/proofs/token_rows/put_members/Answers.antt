use Rattle.std.proofs.Common.{◌<◌, Some, length, ap, ◌∙◌, option_map, rules, arith}
use Rattle.json.proofs.Grammar.{read_key-shorter}
use Rattle.tokei_table_row.specs.RowOf.{row_of}
use Rattle.tokei_table_json.proofs.Next.{shorter}
use Rattle.tokei_table_json.proofs.NextRows.{one_member_read, all_members_read}
use Rattle.tokei_table_json.proofs.Refused.{not_done}
use Rattle.tokei_table_json.proofs.token_rows.put_members.Goals as goal

pub returns-in-Ok-None : goal.returns-in-Ok-None
returns-in-Ok-None c e =
    let l = c.loop-key in
    let r = c.next_key.new.self in
    let key = c.in-Ok-None.ensures.value ∙ ap (λ k. Some (option_map (λ s. s.now) k, r)) c.in-Ok-None.field-0-is in
    all_members_read 124 c.args.reader.now l.reader r l.last (row_of c.args.row.now) (row_of l.row) l.invariant key

pub loop-key-smaller : goal.loop-key-smaller
loop-key-smaller c =
    let now = c.loop-key.reader in
    let s = c.next_key.new.self in
    let r = c.put_next.new.reader in
    let key = c.in-Ok-Some.ensures.value ∙ ap (λ k. Some (option_map (λ s. s.now) k, s)) c.in-Ok-Some.field-0-is in
    let fewer = read_key-shorter now (Some c.in-Ok-Some.key.now) s key in
    let fewest = shorter 124 s r (row_of c.put_next.new.row) (c.in_ok-put_next-in-Ok-Some.ensures (search rules)) in
    let less : length r < length now = omega arith in
    less

pub loop-key-preserved : goal.loop-key-preserved
loop-key-preserved c =
    let l = c.loop-key in
    let s = c.next_key.new.self in
    let key = c.in-Ok-Some.ensures.value ∙ ap (λ k. Some (option_map (λ s. s.now) k, s)) c.in-Ok-Some.field-0-is in
    one_member_read 124 c.args.reader.now l.reader s c.put_next.new.reader l.last c.in-Ok-Some.key (row_of c.args.row.now) (row_of l.row) (row_of c.put_next.new.row)
    l.invariant key (c.ascends.ensures (search rules)) (c.in_ok-put_next-in-Ok-Some.ensures (search rules))

pub returns-in-Err : goal.returns-in-Err
returns-in-Err c e = not_done e

pub returns-then-not-ascends : goal.returns-then-not-ascends
returns-then-not-ascends c e = not_done e
