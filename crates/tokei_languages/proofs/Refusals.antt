-- Answers and refusals of calls.
use Rattle.std.proofs.Common.{◌≡◌, Ok, Err, Result, OnErr}

-- what is answered is no refusal
pub no_refusal : {A B : Type 0} {x : A} {y : B} → Ok x ≡ Err y → ⊥
no_refusal e = cc

-- a fact holds on a refusal
pub on_err : {A B : Type 0} {P : Type 0} (r : Result A B) → P → OnErr r P
on_err (Ok x) h = tt
on_err (Err e) h = h
