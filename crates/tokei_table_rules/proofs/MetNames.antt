-- The names that are met after one was added, and whether one of two was met.
use Rattle.std.proofs.Common.{◌≡◌, Bool, true, false, ◌||◌, cond, Option, None, Some, is_some, refl, sym, ap, ◌∙◌}

pub put_then : {X : Type 0} (b : Bool) (v : X) (o : Option X) → is_some (cond b (Some v) o) ≡ (is_some o || b)
put_then true v None = refl
put_then true v (Some w) = refl
put_then false v None = refl
put_then false v (Some w) = refl

-- the first of two was met, so one of them was
pub met_by_first : (r a b : Bool) → r ≡ a → r ≡ true → r ≡ (a || b)
met_by_first r a b e t = t ∙ sym (ap (λ x. x || b) (sym e ∙ t))

-- the first of two wasn't met, so it is as the second one
pub met_by_second : (r a b : Bool) → r ≡ b → a ≡ false → r ≡ (a || b)
met_by_second r a b e f = e ∙ sym (ap (λ x. x || b) f)
