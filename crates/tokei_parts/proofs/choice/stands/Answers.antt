use Rattle.std.proofs.Common.{arith, rules}
use Rattle.std.proofs.lemmas.Grind.{common_steps}
use Rattle.tokei_parts.proofs.ShortTokens.{second_apart, three_stand}
use Rattle.tokei_parts.proofs.choice.stands.Goals as goal

pub returns-in-len1-len1-up : goal.returns-in-len1-len1-up
returns-in-len1-len1-up c = grind (arith, common_steps)

pub returns-in-len2-len2-up : goal.returns-in-len2-len2-up
returns-in-len2-len2-up c = grind (arith, common_steps)

pub returns-in-len2-up-len2-up : goal.returns-in-len2-up-len2-up
returns-in-len2-up-len2-up c = second_apart c.args.token.now c.args.text.now (search rules) (search rules) c.if-second-byte.true

pub returns-in-len3-len3-up : goal.returns-in-len3-len3-up
returns-in-len3-len3-up c =
    three_stand c.args.token.now c.args.text.now (search rules) (grind (arith, common_steps)) (search rules)
    c.if-first-byte.false c.if-second-byte.false
