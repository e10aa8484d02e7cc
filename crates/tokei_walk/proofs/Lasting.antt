-- Folders that stay as they were over two calls.
use Rattle.std.proofs.Common.{◌≡◌, ◌<◌, ℕ, Option, Result, Ok, Err, OnOk, sym, ap, ◌∙◌, subst}
use Rattle.std.specs.Prelude.{IsErr}
use Rattle.tokei_folders.specs.declared.fs.Fault.{Fault}
use Rattle.tokei_folders.specs.declared.fs.Fault.TheVariants.{Refused}
use Rattle.tokei_folders.specs.Answers.{counted}
use Rattle.tokei_folders.specs.AsTheyWere.{AsTheyWere, SameTree, FaultsStay, NoFault}
use Rattle.tokei_folders.specs.Tree.{Tree}

pub stay_on : {F : Type 0} (faults : F → ℕ) (x y z : F) → FaultsStay faults x y → FaultsStay faults y z → FaultsStay faults x z
stay_on faults x y z f g = λ few. let same = f few in g (subst (λ n. n < 18446744073709551615) (sym same) few) ∙ same

honest_on : {F B D : Type 0} (faults : F → ℕ) (x y z : F) (r : Result B D) → FaultsStay faults x y → NoFault faults y z r → NoFault faults x z r
honest_on faults x y z (Ok b) f g = stay_on faults x y z f g
honest_on faults x y z (Err e) f g = tt

honest_by : {F B D : Type 0} (faults : F → ℕ) (x y : F) (r : Result B D) → FaultsStay faults x y → NoFault faults x y r
honest_by faults x y (Ok b) f = f
honest_by faults x y (Err e) f = tt

honest_refused : {F B D : Type 0} (faults : F → ℕ) (x y : F) (r : Result B D) → IsErr r → NoFault faults x y r
honest_refused faults x y (Ok b) is = absurd (cc)
honest_refused faults x y (Err e) is = tt

-- after a call that answers, as the next one leaves them
pub lasts : {F A B E D : Type 0} {tree : F → Option Tree} {faults : F → ℕ} {x y z : F} {a : A} {r : Result B D}
    → AsTheyWere {E = E} tree faults x y (Ok a) → AsTheyWere tree faults y z r → AsTheyWere tree faults x z r
lasts {faults = faults} {x = x} {y = y} {z = z} {r = r} f g = record { same = g.same ∙ f.same; honest = honest_on faults x y z r f.honest g.honest }

-- with another answer
pub answers : {F A B E D : Type 0} {tree : F → Option Tree} {faults : F → ℕ} {x y : F} {a : A} {b : B}
    → AsTheyWere {E = E} tree faults x y (Ok a) → AsTheyWere {E = D} tree faults x y (Ok b)
answers f = record { same = f.same; honest = f.honest }

-- with a refusal
pub refused : {F B D : Type 0} {tree : F → Option Tree} {faults : F → ℕ} {x y : F} {r : Result B D} → IsErr r → SameTree tree x y → AsTheyWere tree faults x y r
refused {faults = faults} {x = x} {y = y} {r = r} is same = record { same = same; honest = honest_refused faults x y r is }

-- with any result, where no fault is counted
pub unharmed : {F B D : Type 0} {tree : F → Option Tree} {faults : F → ℕ} {x y : F} {r : Result B D} → SameTree tree x y → FaultsStay faults x y → AsTheyWere tree faults x y r
unharmed {faults = faults} {x = x} {y = y} {r = r} same stay = record { same = same; honest = honest_by faults x y r stay }

-- a refused call has no fault that is counted
pub refused_stays : {F A : Type 0} (faults : F → ℕ) (x y : F) (r : Result A Fault) → r ≡ Err Refused → (faults x < 18446744073709551615 → faults y ≡ counted r (faults x)) → FaultsStay faults x y
refused_stays faults x y r is counts = λ few. counts few ∙ ap (λ q. counted q (faults x)) is

-- what holds, also where a call answers
pub on_ok : {B D : Type 0} {P : Type 0} (r : Result B D) → P → OnOk r P
on_ok (Ok b) p = p
on_ok (Err e) p = tt

-- what follows from it where a call answers
pub on_ok_by : {B D : Type 0} {P Q : Type 0} (r : Result B D) → (P → Q) → OnOk r P → OnOk r Q
on_ok_by (Ok b) f p = f p
on_ok_by (Err e) f p = tt

pub on_ok_by2 : {B D : Type 0} {P Q S : Type 0} (r : Result B D) → (P → Q → S) → OnOk r P → OnOk r Q → OnOk r S
on_ok_by2 (Ok b) f p q = f p q
on_ok_by2 (Err e) f p q = tt

pub on_ok_by3 : {B D : Type 0} {P Q S T : Type 0} (r : Result B D) → (P → Q → S → T) → OnOk r P → OnOk r Q → OnOk r S → OnOk r T
on_ok_by3 (Ok b) f p q s = f p q s
on_ok_by3 (Err e) f p q s = tt
