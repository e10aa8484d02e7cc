-- A text that comes only where its part was made.
use Rattle.std.proofs.Common.{Result, OnOk}
use Rattle.std.proofs.lemmas.Bool.{false≢true}
use Rattle.std.specs.Prelude.{Ok, Err, IsOk}

pub where_made : {T S E F : Type 0} (whole : Result T E) (part : Result S F) (P : Type 0) → OnOk whole (IsOk part) → OnOk part P → OnOk whole P
where_made (Ok x) (Ok y) P made p = p
where_made (Ok x) (Err e) P made p = absurd (false≢true made)
where_made (Err e) part P made p = tt
