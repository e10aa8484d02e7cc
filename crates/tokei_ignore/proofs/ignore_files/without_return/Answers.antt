use Rattle.std.proofs.lemmas.List.{nil_from_length}
use Rattle.tokei_ignore.proofs.LineEnds.{return_cut, return_none, return_of_nothing}
use Rattle.tokei_ignore.proofs.ignore_files.without_return.Goals as goal

pub returns-in-None : goal.returns-in-None
returns-in-None c = return_of_nothing c.args.line.now (nil_from_length c.args.line.now c.in-None.ensures.cases)

pub returns-then-last-eq13 : goal.returns-then-last-eq13
returns-then-last-eq13 c = return_cut c.args.line.now c.in-Some.front.now c.in-Some.last.now c.in-Some.ensures.cases.0 c.if-last-eq13.true

pub returns-else-last-eq13 : goal.returns-else-last-eq13
returns-else-last-eq13 c = return_none c.args.line.now c.in-Some.front.now c.in-Some.last.now c.in-Some.ensures.cases.0 c.if-last-eq13.false
