-- What is counted on the way through a stretch is what its bytes say at its end.
use Rattle.std.proofs.Common.{◌≡◌, ℕ, suc, ◌+◌, ◌==◌, Bool, true, false, cond, List, [], ◌∷◌, ◌++◌, length, map, drop, None, refl, sym, ◌∙◌, ap, ap₂, arith}
use Rattle.std.specs.List.{AllByRecursion}
use Rattle.tokei_table.specs.Bytes.{newline}
use Rattle.tokei_table.specs.Openers.{openers}
use Rattle.tokei_table.specs.Row.{Row}
use Rattle.tokei_parts.specs.Glance.{is_walked}
use Rattle.tokei_parts.specs.Items.{Items, Mode}
use Rattle.tokei_embedding.specs.DocComments.{first_line}
use Rattle.tokei_parts.specs.Modes.{Mark, innermost, marks}
use Rattle.tokei_parts.specs.Modes.Mark.{byte_at, child_at}
use Rattle.tokei_parts.specs.Running.{Passed, running, choices_made, choices_passed}
use Rattle.tokei_count.specs.Steps.{own_steps, own_steps_by, all_choices, walked_choices}
use Rattle.tokei_parts.specs.Stretches.{Stretch, stretches, bytes_of, choices_of, one_if}

-- the stretch, as the walk passes it
abbrev pub passed_of : Stretch → Passed
passed_of s = record { begun = s.begun; reach = s.reach; size = length s.own; choices = choices_of s.own }

bytes-on : (s : List (ℕ × Bool)) (b : ℕ) (x : Bool) → bytes_of (s ++ (b, x) ∷ []) ≡ bytes_of s ++ b ∷ []
bytes-on [] b x = refl
bytes-on (a ∷ s) b x = ap (λ w. a.0 ∷ w) (bytes-on s b x)

choices-on : (s : List (ℕ × Bool)) (b : ℕ) (x : Bool) → choices_of (s ++ (b, x) ∷ []) ≡ choices_of s + one_if x
choices-on [] b x = omega arith
choices-on (a ∷ s) b x = omega (arith, choices-on s b x)

length-bytes : (s : List (ℕ × Bool)) → length (bytes_of s) ≡ length s
length-bytes [] = refl
length-bytes (a ∷ s) = ap suc (length-bytes s)

pub running-is : (m : Mode) (s : List (ℕ × Bool)) (t : List ℕ) (ms : List Mark) → running m (bytes_of s) (choices_of s) t ms ≡ map passed_of (stretches m s t ms)
unfolding running stretches
running-is m [] t [] = refl
running-is m (a ∷ s) t [] = ap (λ n. record { begun = m; reach = bytes_of (a ∷ s); size = n; choices = choices_of (a ∷ s) } ∷ []) (length-bytes (a ∷ s))
running-is m s t (byte_at b x c ∷ ms) =
    ap₂ (λ w n. cond (b == newline) (record { begun = m; reach = w; size = length w; choices = n } ∷ running (innermost c) [] 0 (drop 1 t) ms) (running m w n (drop 1 t) ms))
    (sym (bytes-on s b x)) (sym (choices-on s b x))
    ∙ by_test (b == newline) (running-is (innermost c) [] (drop 1 t) ms) (running-is m (s ++ (b, x) ∷ []) (drop 1 t) ms)
  where
    on : List (ℕ × Bool)
    on = s ++ (b, x) ∷ []

    by_test : (y : Bool) → running (innermost c) [] 0 (drop 1 t) ms ≡ map passed_of (stretches (innermost c) [] (drop 1 t) ms)
        → running m (bytes_of on) (choices_of on) (drop 1 t) ms ≡ map passed_of (stretches m on (drop 1 t) ms)
        → cond y (record { begun = m; reach = bytes_of on; size = length (bytes_of on); choices = choices_of on } ∷ running (innermost c) [] 0
        (drop 1 t) ms) (running m (bytes_of on) (choices_of on) (drop 1 t) ms)
        ≡ map passed_of (cond y (record { begun = m; reach = bytes_of on; own = on } ∷ stretches (innermost c) [] (drop 1 t) ms) (stretches m on (drop 1 t) ms))
    by_test true h k = ap₂ (λ n w. record { begun = m; reach = bytes_of on; size = n; choices = choices_of on } ∷ w) (length-bytes on) h
    by_test false h k = k
running-is m s t (child_at k ∷ ms) =
    ap₂ (λ n w. record { begun = m; reach = bytes_of s ++ first_line t; size = n; choices = choices_of s } ∷ w) (length-bytes s) (running-is None [] (drop k.size t) ms)

choices-passed : (os : List (List ℕ)) (ss : List Stretch) → walked_choices os ss ≡ choices_passed os (map passed_of ss)
choices-passed os [] = refl
choices-passed os (s ∷ ss) = ap (λ n. cond (is_walked os s.begun s.reach) (choices_of s.own) 0 + n) (choices-passed os ss)

-- the choices of the walked parts of a text, as they are counted on the way
pub own_steps-running : (r : Row) (t : List ℕ) (is : Items) → own_steps r t is ≡ choices_passed (openers r) (running None [] 0 t (marks [] is))
own_steps-running r t is =
    choices-passed (openers r) (stretches None [] t (marks [] is)) ∙ ap (choices_passed (openers r)) (sym (running-is None [] t (marks [] is)))

choices-all : (os : List (List ℕ)) (ss : List Stretch) → all_choices ss ≡ choices_made false os (map passed_of ss)
choices-all os [] = refl
choices-all os (s ∷ ss) = ap (λ n. choices_of s.own + n) (choices-all os ss)

-- and those that a reading makes, which skips or not
pub own_steps_by-running : (skips : Bool) (r : Row) (t : List ℕ) (is : Items) → own_steps_by skips r t is ≡ choices_made skips (openers r) (running None [] 0 t (marks [] is))
own_steps_by-running true r t is = own_steps-running r t is
own_steps_by-running false r t is =
    choices-all (openers r) (stretches None [] t (marks [] is)) ∙ ap (choices_made false (openers r)) (sym (running-is None [] t (marks [] is)))

-- what holds of each stretch that was passed
pub each-stretch : (P : Passed → Type 0) (ss : List Stretch) → AllByRecursion P (map passed_of ss) → AllByRecursion (λ s. P (passed_of s)) ss
each-stretch P [] h = tt
each-stretch P (s ∷ ss) h = (h.0, each-stretch P ss h.1)
