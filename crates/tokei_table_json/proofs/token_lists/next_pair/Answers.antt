use Rattle.std.proofs.Common.{◌-◌, ◌≡◌, ℕ, Some, IfSome, string_bytes, subst, rules, arith}
use Rattle.json.specs.Json.{after_end_array}
use Rattle.tokei_table_json.specs.Escaped.{is_escaped_value}
use Rattle.tokei_json_tree.specs.Shapes.{is_text}
use Rattle.tokei_table_json.specs.Next.{IsNext}
use Rattle.tokei_table_json.specs.Rows.{text_of}
use Rattle.tokei_table_json.proofs.Next.{pair_next}
use Rattle.tokei_table_json.proofs.token_lists.next_pair.Goals as goal

pub returns : goal.returns
returns c depth within =
    let a = c.begins_list.new.reader in
    let b = c.next_text.new.reader in
    let d = c.next_text-2.new.reader in
    let opener = subst (λ o. IfSome o (λ s. (n : ℕ) → IsNext is_text is_escaped_value text_of n a b (string_bytes s))) c.in-Some.is c.in_ok-opener.ensures in
    let closer = subst (λ o. IfSome o (λ s. (n : ℕ) → IsNext is_text is_escaped_value text_of n b d (string_bytes s))) c.in-Some-2.is c.in_ok-closer.ensures in
    let end : after_end_array d ≡ Some c.take_end_array.new.self = grind arith in
    pair_next depth c.args.reader.now a b d c.take_end_array.new.self _ _ within (c.begins_list.ensures (search rules)) (opener (depth - 1)) (closer (depth - 1)) end
