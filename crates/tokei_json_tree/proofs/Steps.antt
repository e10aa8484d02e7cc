-- The items of a list from a place on: the one there, and those behind it.
use Rattle.std.proofs.Common.{◌≡◌, ℕ, ◌+◌, ◌<◌, ◌≤◌, List, ◌∷◌, sym, ap, ◌∙◌, arith, drop, get_or, length}
use Rattle.std.proofs.lemmas.List.{drop_more}

pub from_item : {X : Type 0} → (xs : List X) (i : ℕ) (x : X) → i < length xs → x ≡ get_or xs i x → drop i xs ≡ x ∷ drop (i + 1) xs
from_item xs i x within e = drop_more xs i x within ∙ ap (λ y. y ∷ drop (i + 1) xs) (sym e)

-- where there is room for all that is left, there is for what is behind its first, once that is put there
pub room_behind : {X : Type 0} {es behind : List X} {x : X} {m room left : ℕ} → (n : ℕ) → es ≡ x ∷ behind → m ≡ n + 1 → left ≡ room
    → (n + length es ≤ room) → (m + length behind ≤ left)
room_behind n e more same h = omega (arith, ap length e)

-- what was made for that many has room for all of them
pub room_for_all : {X : Type 0} {es all : List X} {n count room : ℕ} → es ≡ all → n ≡ 0 → count ≡ length all → count ≤ room
    → n + length es ≤ room
room_for_all same none counted h = omega (arith, ap length same)
