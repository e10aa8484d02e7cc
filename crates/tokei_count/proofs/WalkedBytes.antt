-- At most one choice begins at a byte, and the walked parts have no more choices than all parts.
use Rattle.std.proofs.Common.{ℕ, ◌≤◌, Bool, true, false, cond, List, [], ◌∷◌, length, arith}
use Rattle.tokei_parts.specs.Glance.{is_walked}
use Rattle.tokei_count.specs.Languages.{Languages}
use Rattle.tokei_count.specs.Steps.{all_choices, walked_choices, walked_bytes, own_choices, own_steps, own_work, plain_steps, steps, work}
use Rattle.tokei_parts.specs.Stretches.{Stretch, choices_of, one_if}
use Rattle.tokei_count.proofs.ChildSums.{cond-most, with_children-most}

one_if-most : (x : Bool) → one_if x ≤ 1
one_if-most true = omega arith
one_if-most false = omega arith

choices_of-most : (bs : List (ℕ × Bool)) → choices_of bs ≤ length bs
choices_of-most [] = omega arith
choices_of-most (b ∷ bs) = omega (arith, one_if-most b.1, choices_of-most bs)

choices-most : (os : List (List ℕ)) (ss : List Stretch) → walked_choices os ss ≤ walked_bytes os ss
choices-most os [] = omega arith
choices-most os (s ∷ ss) =
    omega (arith, choices-most os ss, cond-most (is_walked os s.begun s.reach) (choices_of s.own) 0 (length s.own) 0 (choices_of-most s.own) (omega arith))

-- the steps of a text are at most its work
pub steps-most : (ls : Languages) (levels language : ℕ) (t : List ℕ) → steps ls levels language t ≤ work ls levels language t
steps-most ls = with_children-most ls own_steps own_work (λ levels language t. choices-most _ _)

some_or_none : (x : Bool) (n : ℕ) → cond x n 0 ≤ n
some_or_none true n = omega arith
some_or_none false n = omega arith

choices-fewer : (os : List (List ℕ)) (ss : List Stretch) → walked_choices os ss ≤ all_choices ss
choices-fewer os [] = omega arith
choices-fewer os (s ∷ ss) = omega (arith, choices-fewer os ss, some_or_none (is_walked os s.begun s.reach) (choices_of s.own))

-- the steps of a text are at most those of its plain reading
pub steps-plain : (ls : Languages) (levels language : ℕ) (t : List ℕ) → steps ls levels language t ≤ plain_steps ls levels language t
steps-plain ls = with_children-most ls own_steps own_choices (λ levels language t. choices-fewer _ _)
