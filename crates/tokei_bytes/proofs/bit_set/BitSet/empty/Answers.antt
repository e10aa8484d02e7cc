use Rattle.std.proofs.Common.{◌∷◌, [], refl, sym, subst}
use Rattle.tokei_bytes.specs.ByteSets.{HasFew}
use Rattle.tokei_bytes.proofs.Sets.{none_in}
use Rattle.tokei_bytes.proofs.BitSets.{no_flags}
use Rattle.tokei_bytes.proofs.bit_set.BitSet.empty.Goals as goal

pub invariant_of-result : goal.invariant_of-result
invariant_of-result c = (refl, subst (λ flags. HasFew flags (0 ∷ 0 ∷ 0 ∷ 0 ∷ []) 0) (sym no_flags) none_in)

pub returns : goal.returns
returns c = no_flags
