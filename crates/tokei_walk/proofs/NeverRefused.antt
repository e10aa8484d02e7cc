-- What is answered wherever memory doesn't fail is never refused.
use Rattle.std.proofs.Common.{◌≡◌, Result, Ok, Err, sym, ◌∙◌, subst}
use Rattle.std.specs.Bool.{⊤}
use Rattle.tokei_folders.specs.declared.fs.Fault.{Fault}
use Rattle.tokei_folders.specs.declared.fs.Fault.TheVariants.{Refused, Memory}

abbrev IsAnswer : {A : Type 0} → Result A Fault → Type 0
IsAnswer (Ok a) = ⊤
IsAnswer (Err e) = ⊥

abbrev IsRefusal : {A : Type 0} → Result A Fault → Type 0
IsRefusal (Ok a) = ⊥
IsRefusal (Err Refused) = ⊤
IsRefusal (Err Memory) = ⊥

pub never_refused : {A : Type 0} (r : Result A Fault) (a : A) → ((r ≡ Err Memory → ⊥) → r ≡ Ok a) → r ≡ Err Refused → ⊥
never_refused r a told e = subst IsAnswer (sym (told (λ m. subst IsRefusal (sym e ∙ m) tt)) ∙ e) tt

-- what is answered, or refused, isn't out of memory
abbrev Lasts : {A : Type 0} → Result A Fault → Type 0
Lasts r = r ≡ Err Memory → ⊥

pub answer_lasts : {A : Type 0} (a : A) → Lasts (Ok a)
answer_lasts a e = subst IsAnswer e tt

pub refusal_lasts : {A : Type 0} (r : Result A Fault) → r ≡ Err Refused → Lasts r
refusal_lasts r is e = subst IsRefusal (sym is ∙ e) tt
