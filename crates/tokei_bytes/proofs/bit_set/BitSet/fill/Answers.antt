use Rattle.std.proofs.Common.{◌∷◌, [], refl, sym, subst}
use Rattle.tokei_bytes.specs.ByteSets.{HasFew}
use Rattle.tokei_bytes.proofs.BitSets.{all_flags, all_in}
use Rattle.tokei_bytes.proofs.bit_set.BitSet.fill.Goals as goal

pub invariant_of-self : goal.invariant_of-self
invariant_of-self c = (refl, subst (λ flags. HasFew flags (0 ∷ 0 ∷ 0 ∷ 0 ∷ []) 5) (sym all_flags) all_in)

pub returns : goal.returns
returns c = all_flags
