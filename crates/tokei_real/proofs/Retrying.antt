-- A read after others that gave nothing.
use Rattle.std.proofs.Common.{ℕ, List, Option, None, Some, Result, Ok, Err, subst}
use Rattle.std.specs.Io.KnownBytes.{Keeps, ReadConsumes}
use Rattle.std.proofs.KnownBytes.{Keeps-trans}

-- where nothing was taken before, it takes what it would have taken at first
pub kept_reads : {E : Type 0} (a b c : Option (List ℕ)) (r : Result ℕ E) (buffer : List ℕ) → Keeps a b → ReadConsumes b c r buffer → ReadConsumes a c r buffer
kept_reads None b c (Ok n) buffer k h = (tt, h.1)
kept_reads None b c (Err e) buffer k h = tt
kept_reads (Some x) None c r buffer k h = absurd k
kept_reads (Some x) (Some y) c r buffer k h = subst (λ (z : List ℕ). ReadConsumes (Some z) c r buffer) k h

-- where nothing is taken again, nothing was taken at all
pub kept_on : (a b c : Option (List ℕ)) → Keeps a b → Keeps b c → Keeps a c
kept_on a b c h k = Keeps-trans a b c h k
