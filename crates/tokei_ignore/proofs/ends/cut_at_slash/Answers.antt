use Rattle.std.proofs.Common.{◌≡◌, ◌==◌, false, arith, rules}
use Rattle.std.proofs.lemmas.List.Elements.{All-more}
use Rattle.std.proofs.lemmas.Bool.Decides.{nat_tests}
use Rattle.tokei_ignore.proofs.Cuts.{cut_here, cut_nowhere}
use Rattle.tokei_ignore.proofs.ends.cut_at_slash.Goals as goal

pub returns-then-c-eq47-clause-last : goal.returns-then-c-eq47-clause-last
returns-then-c-eq47-clause-last c = cut_here 47 c.args.chars.now c.loop-i.i c.index-chars-i.result c.loop-i-test.true c.index-chars-i.is (search rules) c.loop-i.invariant

pub loop-i-preserved : goal.loop-i-preserved
loop-i-preserved c = All-more (λ x. (x == 47) ≡ false) c.args.chars.now c.loop-i.i c.index-chars-i.result c.loop-i-test.true c.loop-i.invariant (grind (arith, nat_tests))

pub returns-clause-last : goal.returns-clause-last
returns-clause-last c = cut_nowhere 47 c.args.chars.now c.loop-i.i c.loop-i-test.false c.loop-i.invariant
