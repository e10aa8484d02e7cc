-- A line that was walked is one part.
use Rattle.std.proofs.Common.{◌≡◌, ℕ, suc, ◌+◌, ◌<◌, ◌≤◌, ◌==◌, Bool, true, false, cond, List, [], ◌∷◌, length, take, drop, Option, refl, sym, ◌∙◌, ap, arith}
use Rattle.tokei_parts.proofs.Leading.{line_done, line_kids, line_choices}
use Rattle.tokei_parts.proofs.Ahead.{marks_ahead-end}
use Rattle.tokei_parts.proofs.Stepping.{top_closed}
use Rattle.tokei_parts.specs.Class.{class_of}
use Rattle.tokei_parts.specs.Items.{Block}
use Rattle.tokei_embedding.specs.DocComments.{first_line}
use Rattle.tokei_table_row.specs.Bytes.{line_len}
use Rattle.tokei_parts.specs.Modes.{Chain, innermost}
use Rattle.tokei_parts.specs.Parts.{cut}
use Rattle.tokei_parts.specs.Tally.{tally, one_of, children}
use Rattle.tokei_parts.specs.Progress.{Leads, ReadsLine, OpensInLine, counts_left, children_left, steps_left, newlines, IsClosable}
use Rattle.tokei_table_row.specs.Counts.{plus, no_lines}
use Rattle.tokei_parts.specs.declared.class.Class.{Class}
use Rattle.tokei_table.specs.Openers.{openers}
use Rattle.tokei_table.specs.Row.{Row}
use Rattle.tokei_parts.specs.Glance.{walks}
use Rattle.tokei_parts.specs.Running.{choices_made}
use Rattle.tokei_table.specs.Sound.{IsSound}

first_by : (x : Bool) (n k m : ℕ) (b : ℕ) (t : List ℕ) → (n < m → length t ≡ n + 1) → (m ≤ n → length t ≡ n) → cond x 0 (suc n) < suc m → length (cond x (b ∷ []) (b ∷ t)) ≡ cond x 0 (suc n) + 1
first_by true n k m b t f g h = refl
first_by false n k m b t f g h = let e : length t ≡ n + 1 = f (omega arith) in omega (arith, e)

first_all : (x : Bool) (n m : ℕ) (b : ℕ) (t : List ℕ) → (m ≤ n → length t ≡ n) → suc m ≤ cond x 0 (suc n) → length (cond x (b ∷ []) (b ∷ t)) ≡ cond x 0 (suc n)
first_all true n m b t g h = absurd (omega arith)
first_all false n m b t g h = let e : length t ≡ n = g (omega arith) in omega (arith, e)

pub length-whole : (u : List ℕ) → length u ≤ line_len u → length (first_line u) ≡ line_len u
length-whole [] h = refl
length-whole (b ∷ t) h = first_all (b == 10) (line_len t) (length t) b (first_line t) (length-whole t) h

pub length-broken : (u : List ℕ) → line_len u < length u → length (first_line u) ≡ line_len u + 1
length-broken [] h = absurd (omega arith)
length-broken (b ∷ t) h = first_by (b == 10) (line_len t) 0 (length t) b (first_line t) (length-broken t) (length-whole t) h

take_by : (x : Bool) (b : ℕ) (t : List ℕ) → take (length (first_line t)) t ≡ first_line t → take (length (cond x (b ∷ []) (b ∷ first_line t))) (b ∷ t) ≡ cond x (b ∷ []) (b ∷ first_line t)
take_by true b t h = refl
take_by false b t h = ap (λ w. b ∷ w) h

pub take-first : (u : List ℕ) → take (length (first_line u)) u ≡ first_line u
take-first [] = refl
take-first (b ∷ t) = take_by (b == 10) b t (take-first t)

within_by : (x : Bool) (b : ℕ) (t : List ℕ) → length (first_line t) ≤ length t → length (cond x (b ∷ []) (b ∷ first_line t)) ≤ suc (length t)
within_by true b t h = omega arith
within_by false b t h = omega arith

pub first_within : (u : List ℕ) → length (first_line u) ≤ length u
first_within [] = omega arith
first_within (b ∷ t) = within_by (b == 10) b t (first_within t)

pub first_some : (b : ℕ) (t : List ℕ) → 0 < length (first_line (b ∷ t))
first_some b t = by_test (b == 10)
  where
    by_test : (x : Bool) → 0 < length (cond x (b ∷ []) (b ∷ first_line t))
    by_test true = omega arith
    by_test false = omega arith

module _ (g : Row) (block : ℕ → List ℕ → Option Block) (l : ℕ) (docs_are_comments : Bool) where
  pub line_reads : (c d : Chain) (u : List ℕ) (class : Class) → IsSound g → OpensInLine block → IsClosable d → 0 < length u
      → (j : ℕ) → Leads g block l c (line_len u) j d u
      → class ≡ class_of g docs_are_comments (record { begun = innermost c; bytes = first_line u; ended = innermost d })
      → ReadsLine g block l docs_are_comments c (length (first_line u)) (j + newlines u) class d u
  line_reads c d [] class s o k h j f e = absurd (omega arith)
  line_reads c d (b ∷ t) class s o k h j f e = record {
    some = first_some b t;
    within = first_within (b ∷ t);
    closable = k;
    counts =
        ap (tally g docs_are_comments) (line_done g block l c d b t s o (top_closed d k) f)
        ∙ ap
        (λ w. plus (one_of w) (counts_left g block l docs_are_comments d
        (drop (length (first_line (b ∷ t))) (b ∷ t))))
        (sym e);
    kids = line_kids g block l c d b t s o (top_closed d k) f;
    steps = λ skips. ap (choices_made skips (openers g)) (line_choices g block l c d b t s o (top_closed d k) j f)
        ∙ ap (λ w. cond (walks skips (openers g) (innermost c) w) (j + newlines (b ∷ t)) 0 + steps_left g block l skips d (drop (length (first_line (b ∷ t))) (b ∷ t))) (sym (take-first (b ∷ t)));
  }

  -- nothing is left behind the text
  pub counts_left-none : (c : Chain) → counts_left g block l docs_are_comments c [] ≡ no_lines
  unfolding cut
  counts_left-none c = ap (λ w. tally g docs_are_comments (cut (innermost c) [] (innermost c) w)) (marks_ahead-end g block l c)

  pub children_left-none : (c : Chain) → children_left g block l c [] ≡ []
  children_left-none c = ap children (marks_ahead-end g block l c)
