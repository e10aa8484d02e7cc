use Rattle.std.proofs.Common.{ℕ, ◌<◌, true, Some, IfSome, string_bytes, sym, ◌∙◌, subst, arith}
use Rattle.tokei_table_row.specs.RowOf.{row_of, tokens_of, pairs_of}
use Rattle.tokei_table_json.specs.Escaped.{is_escaped_value, is_escaped_list, are_escaped_pairs}
use Rattle.tokei_table_json.specs.Layout.{is_text_pair}
use Rattle.tokei_json_tree.specs.Shapes.{is_list, is_text, is_truth_value}
use Rattle.tokei_table_json.specs.Next.{IsNext}
use Rattle.tokei_table_json.specs.Rows.{text_of, texts_at, pairs_at, truth_at}
use Rattle.tokei_table_json.proofs.Refused.{not_done}
use Rattle.tokei_table_json.proofs.NextRows.{texts_member, pairs_member, name_member, truth_member}
use Rattle.tokei_table_json.proofs.token_rows.put_next.Goals as goal

pub returns-in-Some : goal.returns-in-Some
returns-in-Some c e =
    let old = c.args.reader.now in
    let new = c.next_texts.new.reader in
    let next = subst (λ o. IfSome o (λ v. (depth : ℕ) → 0 < depth
    → IsNext (is_list is_text) is_escaped_list (λ d. texts_at (Some d)) depth old new (tokens_of v.items)))
    c.in-Some.is c.in_ok-texts-in-Texts.ensures in
    texts_member c.args.key.now (row_of c.args.row.now) (row_of c.put_texts.new.row) 124 old new c.in-Texts.list _
    (sym c.in-Texts.is ∙ c.member_of.ensures) c.put_texts.ensures (next 124 (omega arith))

pub returns-in-Some-2 : goal.returns-in-Some-2
returns-in-Some-2 c e =
    let old = c.args.reader.now in
    let new = c.next_pairs.new.reader in
    let next = subst (λ o. IfSome o (λ v. (depth : ℕ) → 1 < depth
    → IsNext (is_list is_text_pair) are_escaped_pairs (λ d. pairs_at (Some d)) depth old new (pairs_of v.items)))
    c.in-Some-2.is c.in_ok-pairs-in-Pairs.ensures in
    pairs_member c.args.key.now (row_of c.args.row.now) (row_of c.put_pairs.new.row) 124 old new c.in-Pairs.list _
    (sym c.in-Pairs.is ∙ c.member_of.ensures) c.put_pairs.ensures (next 124 (omega arith))

pub returns-in-Some-next_truth : goal.returns-in-Some-next_truth
returns-in-Some-next_truth c e =
    let old = c.args.reader.now in
    let new = c.next_truth.new.reader in
    let next = subst (λ o. IfSome o (λ b. (depth : ℕ) → IsNext is_truth_value (λ d. true) (λ d. truth_at (Some d)) depth old new b)) c.in-Some-next_truth.is c.next_truth.ensures in
    truth_member c.args.key.now (row_of c.args.row.now) (row_of c.put_truth.new.row) 124 old new c.in-Truth.member _
    (sym c.in-Truth.is ∙ c.member_of.ensures) c.put_truth.ensures (next 124)

pub returns-in-Some-3 : goal.returns-in-Some-3
returns-in-Some-3 c e =
    let old = c.args.reader.now in
    let new = c.next_text.new.reader in
    let next = subst (λ o. IfSome o (λ s. (depth : ℕ) → IsNext is_text is_escaped_value text_of depth old new (string_bytes s))) c.in-Some-3.is c.in_ok-name-in-Name.ensures in
    name_member c.args.key.now (row_of c.args.row.now) (row_of c.put_name.new.row) 124 old new _ (sym c.in-Name.is ∙ c.member_of.ensures) c.put_name.ensures (next 124)

pub returns-in-None : goal.returns-in-None
returns-in-None c e = not_done e

pub returns-in-None-2 : goal.returns-in-None-2
returns-in-None-2 c e = not_done e

pub returns-in-None-3 : goal.returns-in-None-3
returns-in-None-3 c e = not_done e

pub returns-in-None-next_truth : goal.returns-in-None-next_truth
returns-in-None-next_truth c e = not_done e
