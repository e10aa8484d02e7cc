-- What is left of a list at each turn of a loop over it that asks something of each item, or reads each.
use Rattle.std.proofs.Common.{◌≡◌, ℕ, ◌+◌, ◌<◌, ◌≤◌, List, [], ◌∷◌, length, get_or, drop, Bool, true, false, ◌&&◌, cond, Bor, Vec, sym, ap, ◌∙◌, subst}
use Rattle.std.proofs.lemmas.List.{drop_all}
use Rattle.json.proofs.Trees.{view-Array, view-Object}
use Rattle.json.specs.Json as json
use Rattle.json.specs.Value.{value_view, items_view, members_view}
use Rattle.json.specs.declared.value.Value.{Value, Array, Object}
use Rattle.tokei_json_tree.proofs.Steps.{from_item}

-- the items from a place on are in order, and what is read of them, beside what was read before, is the whole
pub record Left {X Y : Type 0} (whole : Y) (read : List X → Y) (Ordered : List X → Type 0) (xs : List X) (i : ℕ) : Type 0 where
  pub same : whole ≡ read (drop i xs)
  pub ordered : Ordered (drop i xs)

-- the items from a place on are in order, and tell what is asked of all
abbrev pub AskedLeft : {X : Type 0} → (List X → Bool) → (List X → Type 0) → List X → ℕ → Type 0
AskedLeft asked Ordered xs i = Left (asked xs) asked Ordered xs i

-- so are and is the item there and those behind it
pub record LeftFrom {X Y : Type 0} (whole : Y) (read : List X → Y) (Ordered : List X → Type 0) (xs : List X) (i : ℕ) (x : X) : Type 0 where
  pub same : whole ≡ read (x ∷ drop (i + 1) xs)
  pub ordered : Ordered (x ∷ drop (i + 1) xs)

module _ {X Y : Type 0} {whole : Y} {read : List X → Y} {Ordered : List X → Type 0} {xs : List X} {i : ℕ} where
  pub from : Left whole read Ordered xs i → (x : X) → i < length xs → x ≡ get_or xs i x → LeftFrom whole read Ordered xs i x
  from left x within is =
      let e = from_item xs i x within is in
      record { same = left.same ∙ ap read e; ordered = subst Ordered e left.ordered }

  -- nothing is left at the end
  pub none_left : Left whole read Ordered xs i → length xs ≤ i → whole ≡ read []
  none_left left end = left.same ∙ ap read (drop_all i xs end)

  -- where the first item that fits is what is read
  module _ {x : X} (n : LeftFrom whole read Ordered xs i x) (fits : Bool) (there : Y) (step : read (x ∷ drop (i + 1) xs) ≡ cond fits there (read (drop (i + 1) xs))) where
    pub skipped : fits ≡ false → Ordered (drop (i + 1) xs) → Left whole read Ordered xs (i + 1)
    skipped e ordered = record { same = n.same ∙ step ∙ ap (λ b. cond b there (read (drop (i + 1) xs))) e; ordered = ordered }

    pub found : fits ≡ true → whole ≡ there
    found e = n.same ∙ step ∙ ap (λ b. cond b there (read (drop (i + 1) xs))) e

-- where what is asked of all is asked of an item and of those behind it
module _ {X : Type 0} {whole : Bool} {asked : List X → Bool} {Ordered : List X → Type 0} {xs : List X} {i : ℕ} {x : X}
    (n : LeftFrom whole asked Ordered xs i x) (b : Bool) (step : asked (x ∷ drop (i + 1) xs) ≡ (b && asked (drop (i + 1) xs))) where
  pub passed : b ≡ true → Ordered (drop (i + 1) xs) → Left whole asked Ordered xs (i + 1)
  passed e ordered = record { same = n.same ∙ step ∙ ap (λ a. a && asked (drop (i + 1) xs)) e; ordered = ordered }

  pub failed : b ≡ false → whole ≡ false
  failed e = n.same ∙ step ∙ ap (λ a. a && asked (drop (i + 1) xs)) e

-- an array is seen as its items, and an object as its members
pub array_seen : {A : Type 0} (v : Value A) (vec : Vec (Value A) A) (xs : List (Value A)) → v ≡ Array vec → xs ≡ vec.items
    → value_view v ≡ json.array (items_view xs)
array_seen v vec xs is same = ap value_view is ∙ view-Array vec ∙ ap (λ ys. json.array (items_view ys)) (sym same)

pub object_seen : {A : Type 0} (v : Value A) (vec : Vec (Bor (List ℕ) × Value A) A) (xs : List (Bor (List ℕ) × Value A)) → v ≡ Object vec → xs ≡ vec.items
    → value_view v ≡ json.object (members_view xs)
object_seen v vec xs is same = ap value_view is ∙ view-Object vec ∙ ap (λ ys. json.object (members_view ys)) (sym same)
