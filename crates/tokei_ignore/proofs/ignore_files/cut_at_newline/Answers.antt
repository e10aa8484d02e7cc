use Rattle.std.proofs.Common.{◌≡◌, ◌==◌, get_or, false, arith, rules}
use Rattle.std.proofs.lemmas.List.{get_or_default}
use Rattle.std.proofs.lemmas.List.Elements.{All-more}
use Rattle.std.proofs.lemmas.Bool.Decides.{nat_tests}
use Rattle.tokei_ignore.proofs.Cuts.{cut_here, cut_nowhere}
use Rattle.tokei_ignore.proofs.ignore_files.cut_at_newline.Goals as goal

pub returns-then-b-eq10-clause-last : goal.returns-then-b-eq10-clause-last
returns-then-b-eq10-clause-last c =
    let bs = c.args.bytes.now in let i = c.loop-i.i in
    cut_here 10 bs i (get_or bs i 0) c.loop-i-test.true (get_or_default bs i 0 (get_or bs i 0) c.loop-i-test.true) (search rules) c.loop-i.invariant

pub loop-i-preserved : goal.loop-i-preserved
loop-i-preserved c = All-more (λ x. (x == 10) ≡ false) c.args.bytes.now c.loop-i.i 0 c.loop-i-test.true c.loop-i.invariant (grind (arith, nat_tests))

pub returns-clause-last : goal.returns-clause-last
returns-clause-last c = cut_nowhere 10 c.args.bytes.now c.loop-i.i c.loop-i-test.false c.loop-i.invariant
