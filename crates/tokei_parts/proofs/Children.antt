-- The children among marks.
use Rattle.std.proofs.Common.{◌≡◌, ℕ, Bool, true, false, List, [], ◌∷◌, ◌++◌, refl}
use Rattle.tokei_parts.specs.Modes.{Mark, Chain, of_choice, inside, closing, closing_from}
use Rattle.tokei_parts.specs.Modes.Mark.{byte_at, child_at}
use Rattle.tokei_parts.specs.Tally.{children}

pub children-append : (a b : List Mark) → children a ≡ [] → children (a ++ b) ≡ children b
children-append [] b h = refl
children-append (byte_at y x c ∷ a) b h = children-append a b h
children-append (child_at k ∷ a) b h = cc

children-inside : (c : Chain) (p : List ℕ) → children (inside c p) ≡ []
children-inside c [] = refl
children-inside c (b ∷ p) = children-inside c p

pub children-of_choice : (c : Chain) (p : List ℕ) → children (of_choice c p) ≡ []
children-of_choice c [] = refl
children-of_choice c (b ∷ p) = children-inside c p

children-closing_from : (x : Bool) (c d : Chain) (p : List ℕ) → children (closing_from x c d p) ≡ []
children-closing_from x c d [] = refl
children-closing_from x c d (b ∷ []) = refl
children-closing_from x c d (b ∷ b' ∷ p) = children-closing_from false c d (b' ∷ p)

pub children-closing : (c d : Chain) (p : List ℕ) → children (closing c d p) ≡ []
children-closing c d p = children-closing_from true c d p
