use Rattle.std.proofs.Common.{◌≡◌}
use Rattle.test_loops.proofs.block_search.unlike.Given as goal

abbrev pub invariant-loop-tag : goal.invariant-loop-tag
invariant-loop-tag l = l.search ≡ l.text

abbrev pub invariant-loop-high : goal.invariant-loop-high
invariant-loop-high l = l.search ≡ l.text

abbrev pub invariant-loop-low : goal.invariant-loop-low
invariant-loop-low l = l.search ≡ l.text
