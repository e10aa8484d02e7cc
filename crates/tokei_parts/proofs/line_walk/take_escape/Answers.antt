use Rattle.std.proofs.Common.{Some}
use Rattle.tokei_parts.specs.LineWalk.{chain_in, reach_of}
use Rattle.tokei_parts.proofs.LineSteps.{choice_goes, choice_high}
use Rattle.tokei_parts.proofs.OneItem.{escape_goes}
use Rattle.tokei_parts.proofs.line_walk.take_escape.Goals as goal

pub take-requires-clause-high : goal.take-requires-clause-high
take-requires-clause-high c =
    let p = c.args.part.now in
    let item = Some c.args.around in
    choice_high p (chain_in item) (chain_in item) c.args.reach.now.at 2 c.requires.reached.1.begins c.requires.some
    (escape_goes p item (reach_of c.args.reach.now) c.requires.reached c.requires.some c.requires.escape)

pub returns-clause-advances : goal.returns-clause-advances
returns-clause-advances c =
    let p = c.args.part.now in
    let item = Some c.args.around in
    choice_goes p (chain_in item) (chain_in item) c.args.reach.now c.take.new.reach c.requires.low c.requires.some 2
    (escape_goes p item (reach_of c.args.reach.now) c.requires.reached c.requires.some c.requires.escape) c.take.ensures.at c.take.ensures.base
