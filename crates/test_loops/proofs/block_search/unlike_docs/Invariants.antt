use Rattle.std.proofs.Common.{◌≡◌}
use Rattle.test_loops.proofs.block_search.unlike_docs.Given as goal

abbrev pub invariant-loop-step : goal.invariant-loop-step
invariant-loop-step l = l.search ≡ l.text

abbrev pub invariant-loop-falls : goal.invariant-loop-falls
invariant-loop-falls l = l.search ≡ l.text
