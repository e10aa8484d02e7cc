-- What a text and a truth value of a tree are.
use Rattle.std.proofs.Common.{◌≡◌, List, ℕ, Bool, rules}
use Rattle.std.specs.Borrow.{Bor}
use Rattle.json.specs.Json as json
use Rattle.json.specs.Value.{value_view}
use Rattle.json.specs.declared.value.Value as value
use Rattle.json.specs.declared.value.Value.{Value, the_lemmas}

module _ (A : Type 0) where
  -- a text is its bytes
  pub view-String : (t : Bor (List ℕ)) → value_view {A = A} (value.String t) ≡ json.string t.now
  view-String t = search (rules, the_lemmas)

  -- a truth value is itself
  pub view-Bool : (b : Bool) → value_view {A = A} (value.Bool b) ≡ json.boolean b
  view-Bool b = search (rules, the_lemmas)
