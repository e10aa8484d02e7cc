-- What a call that is refused has to meet.
use Rattle.std.proofs.Common.{Result, Ok, Err, OnOk}
use Rattle.std.specs.Prelude.{IsErr}

-- of a call that is refused nothing has to hold
pub refuses_none : {B D : Type 0} (P : Type 0) (r : Result B D) → IsErr r → OnOk r P
refuses_none P (Ok b) is = absurd (cc)
refuses_none P (Err e) is = tt
