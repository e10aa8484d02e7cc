use Rattle.std.proofs.Common.{arith}
use Rattle.tokei_embedding.proofs.fences.closing_len.Goals as goal

pub returns-in_default-2-clause-within : goal.returns-in_default-2-clause-within
returns-in_default-2-clause-within c = omega arith

pub bounds-behind-0 : goal.bounds-behind-0
bounds-behind-0 c = omega arith

pub returns-in-len1-up-clause-within : goal.returns-in-len1-up-clause-within
returns-in-len1-up-clause-within c = omega arith
