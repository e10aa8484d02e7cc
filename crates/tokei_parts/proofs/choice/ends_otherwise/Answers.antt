use Rattle.std.proofs.Common.{arith}
use Rattle.std.proofs.lemmas.Grind.{common_steps}
use Rattle.tokei_parts.proofs.TokenEnds.{apart_at_end}
use Rattle.tokei_parts.proofs.choice.ends_otherwise.Goals as goal

-- the byte that the text has where the token ends
pub returns-in-Some : goal.returns-in-Some
returns-in-Some c =
    apart_at_end c.args.token.now c.args.text.now c.in-Some.byte.now (omega (arith, c.in-len1-up.len_at_least))
    (c.in-Some.ensures.lookup.3.1 0)

pub returns-in-None : goal.returns-in-None
returns-in-None c = grind (arith, common_steps)
