use Rattle.std.proofs.Common.{◌≡◌, ◌-◌, ◌<◌, ◌∷◌, length, None, Some, option_map, refl, sym, ap, ◌∙◌, subst, arith}
use Rattle.json.specs.Json.{after_end_array, read_key, value}
use Rattle.json.specs.Reads.{token_of}
use Rattle.json.proofs.Grammar.{read_key-shorter}
use Rattle.tokei_json_tree.specs.Numbers.{items_pass, members_pass, number_test, numbers_pass}
use Rattle.tokei_json_tree.specs.Tokens.{IsPassed, nothing}
use Rattle.tokei_json_tree.proofs.TokensRead.{array_read, boolean_passed, both, items_over, items_turn, members_over, members_turn, null_passed, number_passed}
use Rattle.tokei_json_tree.proofs.TokensRead.{object_read, string_passed}
use Rattle.tokei_json_tree.proofs.passing.+pass.Goals as goal

pub pass_items-loop-numbers-preserved : goal.pass_items-loop-numbers-preserved
pass_items-loop-numbers-preserved t c =
    let p = value c.args.depth in
    let l = c.loop-numbers in
    let now = l.reader in
    let behind = c.pass_value.new.reader in
    let going : (after_end_array now ≡ None) × (c.take_end_array.new.self ≡ now) = c.loop-numbers-test.ensures in
    let test = number_test c.args.numbers in
    let one = subst (λ ts. IsPassed p (numbers_pass test) ts behind) going.1 (c.pass_value.ensures.passed c.if-not-pass_value.false) in
    let less : length behind < length now = subst (λ ts. length behind < length ts) going.1 (c.pass_value.ensures.shorter c.if-not-pass_value.false) in
    record {
      turns = l.invariant.turns - 1;
      enough = omega (arith, l.invariant.enough);
      fewer = omega (arith, l.invariant.fewer);
      rest = λ left h. l.invariant.rest left
          (items_turn p (items_pass test) nothing l.invariant.turns now one.whole behind left (λ x. x) tt (omega (arith, l.invariant.enough)) going.0 one.reads
          (λ js f. both (numbers_pass test one.whole) (items_pass test js) one.passes f) (λ js. refl) h);
    }

pub pass_items-returns-clause-passed : goal.pass_items-returns-clause-passed
pass_items-returns-clause-passed t c =
    let l = c.loop-numbers in
    λ done. l.invariant.rest c.take_end_array.new.self
    (items_over (value c.args.depth) (items_pass (number_test c.args.numbers)) nothing l.invariant.turns l.reader c.take_end_array.new.self l.invariant.enough
    c.loop-numbers-test.ensures refl)

pub pass_members-loop-reader-preserved : goal.pass_members-loop-reader-preserved
pass_members-loop-reader-preserved t c =
    let p = value c.args.depth in
    let test = number_test c.args.numbers in
    let l = c.loop-reader in
    let now = l.reader in
    let name = c.in-Ok-Some.field-0-0.now in
    let behind = c.next_key.new.self in
    let rest = c.pass_value.new.reader in
    let key : read_key now ≡ Some (Some name, behind) =
    subst (λ o. read_key now ≡ Some (option_map (λ s. s.now) o, behind)) c.in-Ok-Some.field-0-is c.in-Ok-Some.ensures.value in
    let one = c.pass_value.ensures.passed c.if-not-pass_value.false in
    let less = c.pass_value.ensures.shorter c.if-not-pass_value.false in
    let lesser = read_key-shorter now (Some name) behind key in
    record {
      turns = l.invariant.turns - 1;
      enough = omega (arith, l.invariant.enough, less, lesser);
      fewer = omega (arith, l.invariant.fewer, less, lesser);
      rest = λ left h. l.invariant.rest left
          (members_turn p (members_pass test) nothing l.invariant.turns now name one.whole behind rest left (λ x. x) tt (omega (arith, l.invariant.enough, lesser)) key
          one.reads (λ ms f. both (numbers_pass test one.whole) (members_pass test ms) one.passes f) (λ ms. refl) h);
    }

pub pass_members-returns-in-Ok-None-clause-passed : goal.pass_members-returns-in-Ok-None-clause-passed
pass_members-returns-in-Ok-None-clause-passed t c =
    let l = c.loop-reader in
    λ done. l.invariant.rest c.next_key.new.self
    (members_over (value c.args.depth) (members_pass (number_test c.args.numbers)) nothing l.invariant.turns l.reader c.next_key.new.self l.invariant.enough
    (subst (λ o. read_key l.reader ≡ Some (option_map (λ s. s.now) o, c.next_key.new.self)) c.in-Ok-None.field-0-is c.in-Ok-None.ensures.value) refl)

pub pass_value-returns-in-Some-String-clause-passed : goal.pass_value-returns-in-Some-String-clause-passed
pass_value-returns-in-Some-String-clause-passed t c =
    λ done. string_passed (number_test c.args.numbers) c.args.depth c.args.reader.now c.next.new.self c.in-Some-String.field-0-0.now
    (c.in-Some-String.ensures.value ∙ ap (λ k. token_of k ∷ c.next.new.self) c.in-Some-String.field-0-is)

pub pass_value-returns-in-Some-Number-clause-passed : goal.pass_value-returns-in-Some-Number-clause-passed
pass_value-returns-in-Some-Number-clause-passed t c =
    λ done. number_passed (number_test c.args.numbers) c.args.depth c.args.reader.now c.next.new.self c.in-Some-Number.text.now
    (c.in-Some-Number.ensures.value ∙ ap (λ k. token_of k ∷ c.next.new.self) c.in-Some-Number.field-0-is)
    (sym c.is_one_of.ensures ∙ done)

pub pass_value-returns-in-Some-Bool-clause-passed : goal.pass_value-returns-in-Some-Bool-clause-passed
pass_value-returns-in-Some-Bool-clause-passed t c =
    λ done. boolean_passed (number_test c.args.numbers) c.args.depth c.args.reader.now c.next.new.self c.in-Some-Bool.field-0-0
    (c.in-Some-Bool.ensures.value ∙ ap (λ k. token_of k ∷ c.next.new.self) c.in-Some-Bool.field-0-is)

pub pass_value-returns-in-Some-Null-clause-passed : goal.pass_value-returns-in-Some-Null-clause-passed
pass_value-returns-in-Some-Null-clause-passed t c =
    λ done. null_passed (number_test c.args.numbers) c.args.depth c.args.reader.now c.next.new.self
    (c.in-Some-Null.ensures.value ∙ ap (λ k. token_of k ∷ c.next.new.self) c.in-Some-Null.field-0-is)

pub pass_value-returns-then-depth-gt0-clause-passed : goal.pass_value-returns-then-depth-gt0-clause-passed
pass_value-returns-then-depth-gt0-clause-passed t c =
    λ done. array_read c.args.depth c.args.reader.now c.next.new.self c.pass_items.new.reader (omega arith) (numbers_pass (number_test c.args.numbers)) nothing (λ x. x) tt
    (items_pass (number_test c.args.numbers)) (λ js. refl) nothing (λ js. refl)
    (c.in-Some-BeginArray.ensures.value ∙ ap (λ k. token_of k ∷ c.next.new.self) c.in-Some-BeginArray.field-0-is)
    (c.pass_items.ensures.passed done)

pub pass_value-returns-then-depth-gt0-2-clause-passed : goal.pass_value-returns-then-depth-gt0-2-clause-passed
pass_value-returns-then-depth-gt0-2-clause-passed t c =
    λ done. object_read c.args.depth c.args.reader.now c.next.new.self c.pass_members.new.reader (omega arith) (numbers_pass (number_test c.args.numbers)) nothing (λ x. x) tt
    (members_pass (number_test c.args.numbers)) (λ ms. refl) nothing (λ ms. refl)
    (c.in-Some-BeginObject.ensures.value ∙ ap (λ k. token_of k ∷ c.next.new.self) c.in-Some-BeginObject.field-0-is)
    (c.pass_members.ensures.passed done)
