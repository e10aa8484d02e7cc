use Rattle.std.proofs.Common.{◌≡◌, ◌||◌, ℕ, drop, length}
use Rattle.tokei_bytes.specs.ByteSets.{is_in}
use Rattle.tokei_table.specs.RowOf.{pairs_of}
use Rattle.tokei_parts.specs.Matchers.{begins_opener}
use Rattle.tokei_parts.proofs.beginnings.add_in_comment.Given as goal

abbrev pub invariant-loop-pair : goal.invariant-loop-pair
invariant-loop-pair l = record {
  long : length l.begins ≡ length l.initial.begins;
  each : (x : ℕ)
      → (is_in l.begins x || begins_opener (pairs_of (drop l.pair-index l.pairs)) x)
      ≡ (is_in l.initial.begins x || begins_opener (pairs_of l.pairs) x);
}
