use Rattle.std.proofs.Common.{arith}
use Rattle.std.proofs.lemmas.Grind.{common_steps}
use Rattle.tokei_json.proofs.language_maps.all_are_known.Goals as goal

pub loop-member-preserved : goal.loop-member-preserved
loop-member-preserved c = grind (arith, common_steps)

pub returns-then-is_none : goal.returns-then-is_none
returns-then-is_none c = grind (arith, common_steps)

pub returns : goal.returns
returns c = grind (arith, common_steps)
