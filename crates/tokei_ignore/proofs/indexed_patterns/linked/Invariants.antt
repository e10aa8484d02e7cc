use Rattle.tokei_ignore.proofs.Chains.{IsIndexOf}
use Rattle.tokei_ignore.proofs.indexed_patterns.linked.Given as goal

abbrev pub invariant-loop-place : goal.invariant-loop-place
invariant-loop-place l = IsIndexOf l.count l.list l.place l.heads.items l.earlier.items
