-- Where something couldn't be read, nothing is told of it.
use Rattle.std.proofs.Common.{◌≡◌, false, true}

-- what is told only where it could be
pub not_done : {P : Type 0} → false ≡ true → P
not_done h = absurd cc
