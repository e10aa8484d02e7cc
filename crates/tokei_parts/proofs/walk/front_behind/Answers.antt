use Rattle.tokei_parts.proofs.Reaching.{front_on}
use Rattle.tokei_parts.proofs.walk.front_behind.Goals as goal

pub returns-then-from-front : goal.returns-then-from-front
returns-then-from-front c =
    front_on c.args.part.now c.args.front c.args.from c.args.plain c.if-from-front.true c.requires.front c.requires.low c.requires.high c.requires.plain
