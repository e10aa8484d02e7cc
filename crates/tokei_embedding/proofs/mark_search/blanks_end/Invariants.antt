use Rattle.std.proofs.Common.{◌≡◌, ℕ, ◌-◌, ◌≤◌, length, drop}
use Rattle.tokei_embedding.specs.DocComments.{first_line, mark_of}
use Rattle.tokei_embedding.proofs.mark_search.blanks_end.Given as goal

abbrev pub invariant-loop-at : goal.invariant-loop-at
invariant-loop-at l = (l.from ≤ l.at) × (l.at ≤ length l.text)
    × ((k : ℕ) → l.from ≤ k → k ≤ l.at → mark_of (first_line (drop k l.text)) ≡ mark_of (first_line (drop l.at l.text)))

abbrev pub decreases-loop-at : goal.decreases-loop-at
decreases-loop-at l = length l.text - l.at
