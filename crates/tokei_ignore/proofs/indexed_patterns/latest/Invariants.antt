use Rattle.tokei_ignore.proofs.Chains.{StandsIn}
use Rattle.tokei_ignore.proofs.indexed_patterns.latest.Given as goal

abbrev pub invariant-loop-at : goal.invariant-loop-at
invariant-loop-at l = StandsIn l.search.list.now l.search.heads.now l.slot l.search.names.now l.search.folder l.at

abbrev pub decreases-loop-at : goal.decreases-loop-at
decreases-loop-at l = l.at
