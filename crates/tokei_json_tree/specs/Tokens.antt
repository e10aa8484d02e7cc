-- Values that are read token by token, and what is kept of them.
use Rattle.std.specs.Prelude.{◌≡◌, List, Bool, true, Some, ⊤}
use Rattle.json.specs.Json.{Json, Parse}
use Rattle.json.specs.Token.{Token}

-- Tokens begin with something that passes the test; what is kept of it was made, and the other
-- tokens are left.
pub record IsRead {A B : Type 0} (parse : Parse A) (test : A → Bool) (kept : A → B) (result : B)
    (tokens left : List Token) : Type 0 where
  pub whole : A
  pub reads : parse tokens ≡ Some (whole, left)
  pub passes : test whole ≡ true
  pub made : kept whole ≡ result

-- All of it is kept.
abbrev pub itself : Json → Json
itself whole = whole

-- Nothing is kept of something that is passed over.
abbrev pub nothing : {A : Type 0} → A → ⊤
nothing whole = tt

-- The same of something of which nothing is kept.
abbrev pub IsPassed : {A : Type 0} → Parse A → (A → Bool) → List Token → List Token → Type 0
IsPassed parse test tokens left = IsRead parse test nothing tt tokens left
