-- Numbers of texts with those of their children.
use Rattle.std.proofs.Common.{ℕ, zero, suc, ◌≤◌, Bool, true, false, cond, List, arith}
use Rattle.tokei_table.specs.Row.{Row}
use Rattle.tokei_parts.specs.Items.{Items}
use Rattle.tokei_count.specs.Languages.{Languages, is_notebook}
use Rattle.tokei_count.specs.Steps.{items_in, children_in, with_children}
use Rattle.tokei_count.proofs.StepWeight.{sum_less}

pub cond-most : (x : Bool) (a b a' b' : ℕ) → a ≤ a' → b ≤ b' → cond x a b ≤ cond x a' b'
cond-most true a b a' b' h k = h
cond-most false a b a' b' h k = k

module _ (ls : Languages) (own own' : Row → List ℕ → Items → ℕ) where
  -- one number of each text is at most another, its children apart
  abbrev pub IsMost : Type 0
  IsMost = (levels language : ℕ) (t : List ℕ) → own (ls.row language) t (items_in ls levels language t) ≤ own' (ls.row language) t (items_in ls levels language t)

  -- and so it is with them
  pub with_children-most : IsMost → (levels language : ℕ) (t : List ℕ) → with_children own ls levels language t ≤ with_children own' ls levels language t
  unfolding with_children
  with_children-most most zero language t = cond-most (is_notebook (ls.row language)) 0 _ 0 _ (omega arith) (omega (arith, most zero language t))
  with_children-most most (suc levels) language t =
      let sums =
      sum_less (λ k. with_children own ls levels k.language k.contents)
      (λ k. with_children own' ls levels k.language k.contents)
      (λ k. with_children-most most levels k.language k.contents) in
      cond-most (is_notebook (ls.row language)) _ _ _ _ (sums (ls.cells language t)) (omega (arith, most (suc levels) language t, sums (children_in ls (suc levels) language t)))
