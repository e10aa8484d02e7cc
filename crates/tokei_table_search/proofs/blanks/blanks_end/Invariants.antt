use Rattle.std.proofs.Common.{◌≡◌, ℕ, ◌-◌, ◌<◌, ◌≤◌, true, slice_index}
use Rattle.tokei_table_row.specs.Bytes.{is_blank}
use Rattle.tokei_table_search.proofs.blanks.blanks_end.Given as goal

abbrev pub invariant-loop-at : goal.invariant-loop-at
invariant-loop-at l = record {
  low : l.from ≤ l.at;
  high : l.at ≤ l.to;
  blank : (p : ℕ) → l.from ≤ p → p < l.at → is_blank (slice_index l.text p) ≡ true;
}

abbrev pub decreases-loop-at : goal.decreases-loop-at
decreases-loop-at l = l.to - l.at
