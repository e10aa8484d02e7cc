-- The files of a run, by what a configuration says.
use Rattle.std.proofs.Common.{◌≡◌, subst}
use Rattle.tokei_walk.specs.declared.levels.Rules.{Rules}
use Rattle.tokei_files.specs.Files.{Counting}

-- what holds of a run holds of the same one, said in other words
pub said_again : {K : Type 0} (P : Counting → K → Type 0) (kept : Rules → K) (a b : Counting) (r q : Rules) → a ≡ b → r ≡ q → P a (kept r) → P b (kept q)
said_again P kept a b r q counting rules h =
    subst (λ (x : Counting). P x (kept q)) counting (subst (λ (x : Rules). P a (kept x)) rules h)
