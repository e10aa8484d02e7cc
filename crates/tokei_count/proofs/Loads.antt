-- How many bytes marks have, and what that bounds.
use Rattle.std.proofs.Common.{◌≡◌, ℕ, suc, ◌+◌, ◌≤◌, ◌==◌, Bool, true, false, cond, List, [], ◌∷◌, ◌++◌, length, drop, None, refl, ap, arith, length-append}
use Rattle.tokei_table.specs.Row.{Row}
use Rattle.tokei_parts.specs.Class.{class_of}
use Rattle.tokei_parts.specs.Glance.{is_walked}
use Rattle.tokei_parts.specs.Items.{Block, Mode}
use Rattle.tokei_embedding.specs.DocComments.{first_line}
use Rattle.tokei_parts.specs.Modes.{Mark, Chain, innermost, inside, of_choice, closing, closing_from}
use Rattle.tokei_parts.specs.Modes.Mark.{byte_at, child_at}
use Rattle.tokei_parts.specs.Parts.{Part, cut}
use Rattle.tokei_parts.specs.Tally.{children, one_of, tally}
use Rattle.tokei_count.specs.Steps.{sum_over}
use Rattle.tokei_parts.specs.Running.{choices_passed, running}
use Rattle.tokei_parts.specs.Stretches.{one_if}
use Rattle.tokei_parts.specs.declared.class.Class.{Class}
use Rattle.tokei_parts.specs.declared.class.Class.TheVariants.{Blank, Code, Comment}
use Rattle.tokei_stats.specs.Statistics.{Counts, lines_of, plus}

-- the bytes of the marks; a child has those that it takes
abbrev pub load : List Mark → ℕ
load [] = 0
load (byte_at b x c ∷ ms) = suc (load ms)
load (child_at k ∷ ms) = k.size + load ms

-- the bytes that the children take
abbrev pub sizes : List Block → ℕ
sizes ks = sum_over (λ k. k.size) ks

pub load-append : (a b : List Mark) → load (a ++ b) ≡ load a + load b
load-append [] b = omega arith
load-append (byte_at y x c ∷ a) b = omega (arith, load-append a b)
load-append (child_at k ∷ a) b = omega (arith, load-append a b)

load-inside : (c : Chain) (p : List ℕ) → load (inside c p) ≡ length p
load-inside c [] = refl
load-inside c (b ∷ p) = ap suc (load-inside c p)

pub load-of_choice : (c : Chain) (p : List ℕ) → load (of_choice c p) ≡ length p
load-of_choice c [] = refl
load-of_choice c (b ∷ p) = ap suc (load-inside c p)

load-closing_from : (x : Bool) (c d : Chain) (p : List ℕ) → load (closing_from x c d p) ≡ length p
load-closing_from x c d [] = refl
load-closing_from x c d (b ∷ []) = refl
load-closing_from x c d (b ∷ b' ∷ p) = ap suc (load-closing_from false c d (b' ∷ p))

pub load-closing : (c d : Chain) (p : List ℕ) → load (closing c d p) ≡ length p
load-closing c d p = load-closing_from true c d p

some_or_none : (x : Bool) (n : ℕ) → cond x n 0 ≤ n
some_or_none true n = omega arith
some_or_none false n = omega arith

one_or_none : (x : Bool) → one_if x ≤ 1
one_or_none true = omega arith
one_or_none false = omega arith

-- no more choices begin than there are bytes outside the children
pub choices_within : (os : List (List ℕ)) (m : Mode) (s : List ℕ) (n : ℕ) (t : List ℕ) (ms : List Mark) → choices_passed os (running m s n t ms) + sizes (children ms) ≤ n + load ms
unfolding running
choices_within os m [] n t [] = omega arith
choices_within os m (a ∷ s) n t [] = omega (arith, some_or_none (is_walked os m (a ∷ s)) n)
choices_within os m s n t (byte_at b x c ∷ ms) = by_test (b == 10) (choices_within os (innermost c) [] 0 (drop 1 t) ms) (choices_within os m (s ++ b ∷ []) (n + one_if x) (drop 1 t) ms)
  where
    by_test : (y : Bool)
        → choices_passed os (running (innermost c) [] 0 (drop 1 t) ms) + sizes (children ms)
        ≤ 0 + load ms
        → choices_passed os (running m (s ++ b ∷ []) (n + one_if x) (drop 1 t) ms)
        + sizes (children ms)
        ≤ n + one_if x + load ms
        → choices_passed os (cond y
        (record {
          begun = m;
          reach = s ++ b ∷ [];
          size = length (s ++ b ∷ []);
          choices = n + one_if x;
        }
        ∷ running (innermost c) [] 0 (drop 1 t) ms)
        (running m (s ++ b ∷ []) (n + one_if x) (drop 1 t) ms))
        + sizes (children ms)
        ≤ n + suc (load ms)
    by_test true h k = omega (arith, some_or_none (is_walked os m (s ++ b ∷ [])) (n + one_if x), one_or_none x)
    by_test false h k = omega (arith, one_or_none x)
choices_within os m s n t (child_at k ∷ ms) = omega (arith, choices_within os None [] 0 (drop k.size t) ms, some_or_none (is_walked os m (s ++ first_line t)) n)

one_line : (class : Class) → lines_of (one_of class) ≡ 1
one_line Blank = refl
one_line Code = refl
one_line Comment = refl

lines-plus : (a b : Counts) → lines_of (plus a b) ≡ lines_of a + lines_of b
lines-plus a b = omega arith

-- a part more is a line more
one_more : (r : Row) (docs_are_comments : Bool) (p : Part) (ps : List Part) → lines_of (tally r docs_are_comments (p ∷ ps)) ≡ suc (lines_of (tally r docs_are_comments ps))
one_more r docs_are_comments p ps = omega (arith, lines-plus (one_of (class_of r docs_are_comments p)) (tally r docs_are_comments ps), one_line (class_of r docs_are_comments p))

-- no more lines are counted than there are bytes outside the children
pub lines_within : (r : Row) (docs_are_comments : Bool) (m : Mode) (s : List ℕ) (e : Mode)
    (ms : List Mark)
    → lines_of (tally r docs_are_comments (cut m s e ms)) + sizes (children ms) ≤ length s + load ms
unfolding cut
lines_within r docs_are_comments m [] e [] = omega arith
lines_within r docs_are_comments m (a ∷ s) e [] = omega (arith, one_more r docs_are_comments (record { begun = m; bytes = a ∷ s; ended = e }) [])
lines_within r docs_are_comments m s e (byte_at b x c ∷ ms) =
    by_test (b == 10) (lines_within r docs_are_comments (innermost c) [] (innermost c) ms)
    (lines_within r docs_are_comments m (s ++ b ∷ []) (innermost c) ms)
  where
    by_test : (y : Bool)
        → lines_of (tally r docs_are_comments (cut (innermost c) [] (innermost c) ms))
        + sizes (children ms)
        ≤ 0 + load ms
        → lines_of (tally r docs_are_comments (cut m (s ++ b ∷ []) (innermost c) ms))
        + sizes (children ms)
        ≤ length (s ++ b ∷ []) + load ms
        → lines_of (tally r docs_are_comments (cond y
        (record { begun = m; bytes = s ++ b ∷ []; ended = innermost c }
        ∷ cut (innermost c) [] (innermost c) ms)
        (cut m (s ++ b ∷ []) (innermost c) ms)))
        + sizes (children ms)
        ≤ length s + suc (load ms)
    by_test true h k = omega (arith, one_more r docs_are_comments (record { begun = m; bytes = s ++ b ∷ []; ended = innermost c }) (cut (innermost c) [] (innermost c) ms))
    by_test false h k = omega (arith, length-append s (b ∷ []))
lines_within r docs_are_comments m s e (child_at k ∷ ms) = omega (arith, lines_within r docs_are_comments None [] None ms)
