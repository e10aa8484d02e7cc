-- Answers, and refusals for a reason.
use Rattle.std.proofs.Common.{◌≡◌, Ok, Err, ap}
use Rattle.std.specs.Prelude.{IsErrOf}

-- an answer is no refusal
pub answered : {T E : Type 0} (x : T) (e : E) → Ok x ≡ Err e → ⊥
answered x e is = cc

-- a refusal that is handed on has the same reason, whatever else would have been answered
pub same_refusal : {T U E : Type 0} (e d : E) → IsErrOf {T = T} (Err e) d → IsErrOf {T = U} (Err e) d
same_refusal e d is = let same : e ≡ d = cc in ap Err same
