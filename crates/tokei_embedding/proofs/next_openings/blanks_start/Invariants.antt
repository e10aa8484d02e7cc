use Rattle.std.proofs.Common.{◌≡◌, ℕ, ◌-◌, ◌<◌, ◌≤◌, true, get_or}
use Rattle.tokei_table_row.specs.Bytes.{is_blank}
use Rattle.tokei_embedding.proofs.next_openings.blanks_start.Given as goal

abbrev pub invariant-loop-start : goal.invariant-loop-start
invariant-loop-start l = (l.from ≤ l.start) × (l.start ≤ l.end) × ((p : ℕ) → l.start ≤ p → p < l.end → is_blank (get_or l.text p 0) ≡ true)

abbrev pub decreases-loop-start : goal.decreases-loop-start
decreases-loop-start l = l.start - l.from
