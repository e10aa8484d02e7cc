use Rattle.std.proofs.Common.{◌-◌, ◌<◌, ◌≡◌, ℕ, Some, IfSome, length, sym, subst, rules, arith}
use Rattle.json.specs.Json.{after_end_array}
use Rattle.tokei_table_row.specs.RowOf.{pair_of, pairs_of}
use Rattle.tokei_table_json.specs.Escaped.{is_escaped_list, are_escaped_pairs}
use Rattle.tokei_table_json.specs.Layout.{is_text_pair}
use Rattle.tokei_json_tree.specs.Shapes.{is_list}
use Rattle.tokei_table_json.specs.Next.{IsNext}
use Rattle.tokei_table_json.specs.Rows.{pair_in, pairs_at}
use Rattle.tokei_table_json.proofs.Made.{made_longer}
use Rattle.tokei_table_json.proofs.Next.{shorter, next_item, pairs_next}
use Rattle.tokei_table_json.proofs.token_lists.next_pairs.Goals as goal

pub loop-alloc-smaller : goal.loop-alloc-smaller
loop-alloc-smaller c =
    let r = c.next_pair.new.reader in
    let going : c.take_end_array.new.self ≡ c.loop-alloc.reader = grind arith in
    let next = subst (λ o. IfSome o (λ s. (n : ℕ) → 0 < n → IsNext is_text_pair is_escaped_list pair_in n c.take_end_array.new.self r (pair_of s))) c.in-Some.is c.in_ok-pair.ensures in
    subst (λ ts. length r < length ts) going (shorter 1 c.take_end_array.new.self r _ (next 1 (omega arith)))

pub loop-alloc-preserved : goal.loop-alloc-preserved
loop-alloc-preserved c n within =
    let l = c.loop-alloc in
    let r = c.next_pair.new.reader in
    let going : c.take_end_array.new.self ≡ l.reader = grind arith in
    let next = subst (λ o. IfSome o (λ s. (n : ℕ) → 0 < n → IsNext is_text_pair is_escaped_list pair_in n c.take_end_array.new.self r (pair_of s))) c.in-Some.is c.in_ok-pair.ensures in
    next_item is_text_pair is_escaped_list pair_in n c.begins_list.new.reader l.reader r (pairs_of l.room.items) _ (pair_of c.in-Some.pair) (l.invariant n within)
    (subst (λ ts. IsNext is_text_pair is_escaped_list pair_in n ts r (pair_of c.in-Some.pair)) going (next n within))
    (made_longer pair_of l.room.items c.push.new.self.items c.in-Some.pair c.in_ok-push.ensures.items)

pub returns : goal.returns
returns c n within =
    let l = c.loop-alloc in
    let end : after_end_array l.reader ≡ Some c.take_end_array.new.self = grind arith in
    subst (λ items. IsNext (is_list is_text_pair) are_escaped_pairs (λ d. pairs_at (Some d)) n c.args.reader.now c.take_end_array.new.self (pairs_of items)) (sym c.in_ok-packed.ensures)
    (pairs_next n c.args.reader.now c.begins_list.new.reader l.reader c.take_end_array.new.self (pairs_of l.room.items) (omega arith) (c.begins_list.ensures (search rules))
    (l.invariant (n - 1) (omega arith)) end)
