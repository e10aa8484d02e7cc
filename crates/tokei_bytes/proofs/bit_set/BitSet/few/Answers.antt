use Rattle.std.proofs.Common.{subst}
use Rattle.tokei_bytes.specs.ByteSets.{HasFew}
use Rattle.tokei_bytes.proofs.Sets.{among}
use Rattle.tokei_bytes.proofs.bit_set.BitSet.few.Goals as goal

pub returns-clause-holds : goal.returns-clause-holds
returns-clause-holds c = λ b fits h.
    let few = c.self.inside.few in
    let count = c.self.inside.count in
    let has : HasFew c.args.self.now few count = subst (λ flags. HasFew flags few count) c.self.view_is c.self.invariant.1 in
    among count few b (has.holds c.if-self-gt-FEW.false b fits h)
