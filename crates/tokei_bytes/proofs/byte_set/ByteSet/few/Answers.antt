use Rattle.std.proofs.Common.{subst, arith}
use Rattle.tokei_bytes.specs.ByteSets.{HasFew}
use Rattle.tokei_bytes.proofs.Sets.{among}
use Rattle.tokei_bytes.proofs.byte_set.ByteSet.few.Goals as goal

pub returns-clause-holds : goal.returns-clause-holds
returns-clause-holds c = λ b fits h.
    let few = c.self.inside.few in
    let has : HasFew c.args.self.now few c.self.inside.count = subst (λ flags. HasFew flags few c.self.inside.count) c.self.view_is c.self.invariant.1.0 in
    among c.self.inside.count few b (has.holds c.if-self-gt-FEW.false b fits h)

pub returns-clause-held : goal.returns-clause-held
returns-clause-held c = λ b h.
    let few = c.self.inside.few in
    let has : HasFew c.args.self.now few c.self.inside.count = subst (λ flags. HasFew flags few c.self.inside.count) c.self.view_is c.self.invariant.1.0 in
    has.held (omega (arith, c.if-self-eq0.false)) b h
