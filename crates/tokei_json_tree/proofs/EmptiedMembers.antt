-- A member of the name holds `null` in the tree, and another what it holds in the text.
use Rattle.std.proofs.Common.{◌≡◌, ℕ, List, Bool, true, false, if◌then◌else◌, bytes_eq, rules, sym, ap, ◌∙◌}
use Rattle.json.specs.Json.{Json, null, Members, member, Parse}
use Rattle.json.specs.Token.{Token}
use Rattle.json.specs.Value.{value_view}
use Rattle.json.specs.declared.value.Value.{Null, the_lemmas}
use Rattle.tokei_json_tree.specs.Emptied.{any, are_counted, emptied}
use Rattle.tokei_json_tree.specs.Numbers.{is_count, numbers_pass}
use Rattle.tokei_json_tree.specs.Tokens.{IsPassed, IsRead}
use Rattle.tokei_json_tree.proofs.TokensRead.{both}

null_seen : (A : Type 0) → value_view {A = A} Null ≡ null
null_seen A = search (rules, the_lemmas)

-- what was passed over is read as `null`
pub null_read : (A : Type 0) {p : Parse Json} {test : Json → Bool} {tokens left : List Token} → IsPassed p test tokens left
    → IsRead p test (λ j. null) (value_view {A = A} Null) tokens left
null_read A one = record {
  whole = one.whole;
  reads = one.reads;
  passes = one.passes;
  made = sym (null_seen A);
}

module _ (name k : List ℕ) where
  pub named_counted : bytes_eq k name ≡ true → (j : Json) (ms : Members) → numbers_pass is_count j ≡ true → are_counted name ms ≡ true
      → are_counted name (member k j ms) ≡ true
  named_counted e j ms f more =
      both (if bytes_eq k name then numbers_pass is_count j else true) (are_counted name ms)
      (ap (λ b. if b then numbers_pass is_count j else true) e ∙ f) more

  pub other_counted : bytes_eq k name ≡ false → (j : Json) (ms : Members) → any j ≡ true → are_counted name ms ≡ true
      → are_counted name (member k j ms) ≡ true
  other_counted e j ms f more =
      both (if bytes_eq k name then numbers_pass is_count j else true) (are_counted name ms)
      (ap (λ b. if b then numbers_pass is_count j else true) e) more

  pub named_emptied : bytes_eq k name ≡ true → (j : Json) (ms : Members) → emptied name (member k j ms) ≡ member k null (emptied name ms)
  named_emptied e j ms = ap (λ b. member k (if b then null else j) (emptied name ms)) e

  pub other_emptied : bytes_eq k name ≡ false → (j : Json) (ms : Members) → emptied name (member k j ms) ≡ member k j (emptied name ms)
  other_emptied e j ms = ap (λ b. member k (if b then null else j) (emptied name ms)) e
