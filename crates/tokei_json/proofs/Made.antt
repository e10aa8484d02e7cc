-- A value that was made is put as what it stands for.
use Rattle.std.proofs.Common.{◌≡◌, ℕ, List, Result, Ok, Err, IfOk, ap, ◌∙◌}
use Rattle.std.specs.Result.{IsOkAnd}
use Rattle.serde_json.specs.Data.{Data, Members, put}
use Rattle.serde_json.specs.View.{view}
use Rattle.serde_json.specs.declared.value.Value.{Value}

pub made_put : {E : Type 0} (r : Result Value E) (k : List ℕ) (d : Data) (old new : Members) → IfOk r (λ v. view v ≡ d)
    → IsOkAnd r (λ v. new ≡ put k (view v) old) → new ≡ put k d old
made_put (Ok v) k d old new seen is = is ∙ ap (λ e. put k e old) seen
made_put (Err e) k d old new seen is = absurd is
