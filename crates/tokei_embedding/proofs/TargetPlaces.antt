-- A block of the target language at a place, by what the code finds.
use Rattle.std.proofs.Common.{◌≡◌, ℕ, true, false, cond, List, drop, None, Some, codes, sym, ◌∙◌, ap}
use Rattle.tokei_table_row.specs.Bytes.{begins}
use Rattle.tokei_embedding.proofs.Places.{not_first}
use Rattle.tokei_embedding.specs.Searches.{is_at, first_of}
use Rattle.tokei_embedding.specs.TargetBlocks.{TargetBlock, target_from, target_block}

pub target_elsewhere : (part rest : List ℕ) (k : ℕ) → is_at k (first_of (codes "{=") part) ≡ false → None ≡ target_block part k rest
target_elsewhere part rest k h = sym (ap (λ x. cond x (Some (target_from rest)) None) h)

pub no_target : (part rest here : List ℕ) (k : ℕ) → drop k part ≡ here → begins (codes "{=") here ≡ false → None ≡ target_block part k rest
no_target part rest here k e h = target_elsewhere part rest k (not_first (begins (codes "{=")) part k (ap (begins (codes "{=")) e ∙ h))

pub target_here : (part rest : List ℕ) (k : ℕ) (b : TargetBlock) → is_at k (first_of (codes "{=") part) ≡ true → b ≡ target_from rest → Some b ≡ target_block part k rest
target_here part rest k b h i = ap Some i ∙ sym (ap (λ x. cond x (Some (target_from rest)) None) h)
