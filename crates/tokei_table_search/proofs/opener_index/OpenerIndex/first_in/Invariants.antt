use Rattle.std.proofs.Common.{◌≡◌, ◌≤◌, ◌<◌, ◌-◌, ℕ, false, length, drop}
use Rattle.tokei_table_row.specs.Bytes.{begins_with_one}
use Rattle.tokei_table_search.proofs.opener_index.OpenerIndex.first_in.Given as goal

abbrev pub invariant-loop-from : goal.invariant-loop-from
invariant-loop-from l = record {
  within : l.from ≤ length l.text;
  none : (k : ℕ) → k < l.from → begins_with_one l.self (drop k l.text) ≡ false;
  narrow : l.width ≤ 4096;
}

abbrev pub decreases-loop-from : goal.decreases-loop-from
decreases-loop-from l = length l.text - l.from
