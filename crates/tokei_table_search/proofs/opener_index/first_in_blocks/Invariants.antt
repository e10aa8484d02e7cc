use Rattle.std.proofs.Common.{◌≡◌, ◌≤◌, ◌<◌, ◌-◌, ℕ, true, length, get_or}
use Rattle.tokei_bytes.specs.OneOf.{is_one_of}
use Rattle.tokei_table_search.proofs.opener_index.first_in_blocks.Given as goal

abbrev pub invariant-loop-from : goal.invariant-loop-from
invariant-loop-from l =
    (l.from ≤ length l.text)
    × ((k : ℕ) → k < l.from → is_one_of l.bytes (get_or l.text k 0) ≡ true → ⊥)
    × (1 ≤ l.width)
    × (l.width ≤ 4096)

abbrev pub decreases-loop-from : goal.decreases-loop-from
decreases-loop-from l = length l.text - l.from
