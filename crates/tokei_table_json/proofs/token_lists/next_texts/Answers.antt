use Rattle.std.proofs.Common.{◌-◌, ◌<◌, ◌≡◌, ℕ, Some, IfSome, string_bytes, length, sym, subst, rules, arith}
use Rattle.json.specs.Json.{after_end_array}
use Rattle.tokei_table_row.specs.RowOf.{tokens_of}
use Rattle.tokei_table_json.specs.Escaped.{is_escaped_value, is_escaped_list}
use Rattle.tokei_json_tree.specs.Shapes.{is_list, is_text}
use Rattle.tokei_table_json.specs.Next.{IsNext}
use Rattle.tokei_table_json.specs.Rows.{text_of, texts_at}
use Rattle.tokei_table_json.proofs.Made.{made_longer}
use Rattle.tokei_table_json.proofs.Next.{shorter, next_item, texts_next}
use Rattle.tokei_table_json.proofs.token_lists.next_texts.Goals as goal

pub loop-alloc-smaller : goal.loop-alloc-smaller
loop-alloc-smaller c =
    let r = c.next_text.new.reader in
    let going : c.take_end_array.new.self ≡ c.loop-alloc.reader = grind arith in
    let next = subst (λ o. IfSome o (λ s. (n : ℕ) → IsNext is_text is_escaped_value text_of n c.take_end_array.new.self r (string_bytes s))) c.in-Some.is c.in_ok-text.ensures in
    subst (λ ts. length r < length ts) going (shorter 0 c.take_end_array.new.self r _ (next 0))

pub loop-alloc-preserved : goal.loop-alloc-preserved
loop-alloc-preserved c n =
    let l = c.loop-alloc in
    let r = c.next_text.new.reader in
    let going : c.take_end_array.new.self ≡ l.reader = grind arith in
    let next = subst (λ o. IfSome o (λ s. (n : ℕ) → IsNext is_text is_escaped_value text_of n c.take_end_array.new.self r (string_bytes s))) c.in-Some.is c.in_ok-text.ensures in
    next_item is_text is_escaped_value text_of n c.begins_list.new.reader l.reader r (tokens_of l.room.items) _ (string_bytes c.in-Some.text) (l.invariant n)
    (subst (λ ts. IsNext is_text is_escaped_value text_of n ts r (string_bytes c.in-Some.text)) going (next n))
    (made_longer string_bytes l.room.items c.push.new.self.items c.in-Some.text c.in_ok-push.ensures.items)

pub returns : goal.returns
returns c n within =
    let l = c.loop-alloc in
    let end : after_end_array l.reader ≡ Some c.take_end_array.new.self = grind arith in
    subst (λ items. IsNext (is_list is_text) is_escaped_list (λ d. texts_at (Some d)) n c.args.reader.now c.take_end_array.new.self (tokens_of items)) (sym c.in_ok-packed.ensures)
    (texts_next n c.args.reader.now c.begins_list.new.reader l.reader c.take_end_array.new.self (tokens_of l.room.items) within (c.begins_list.ensures (search rules))
    (l.invariant (n - 1)) end)
