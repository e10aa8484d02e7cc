-- A fence at a place, by what the code finds.
use Rattle.std.proofs.Common.{◌≡◌, ℕ, true, false, cond, List, drop, None, Some, sym, ◌∙◌, ap}
use Rattle.tokei_embedding.proofs.Places.{not_first}
use Rattle.tokei_embedding.specs.Fences.{Fence, opens_fence, info_len, first_fence, fence_from, fence_block}
use Rattle.tokei_embedding.specs.Searches.{is_at}

pub fence_elsewhere : (part rest : List ℕ) (k : ℕ) → is_at k (first_fence part) ≡ false → None ≡ fence_block part k rest
fence_elsewhere part rest k h = sym (ap (λ x. cond x (Some (fence_from (info_len (drop k part)) rest)) None) h)

pub no_fence : (part rest here : List ℕ) (k : ℕ) → drop k part ≡ here → opens_fence here ≡ false → None ≡ fence_block part k rest
no_fence part rest here k e h = fence_elsewhere part rest k (not_first opens_fence part k (ap opens_fence e ∙ h))

pub fence_here : (part rest here : List ℕ) (k n : ℕ) (f : Fence) → drop k part ≡ here → is_at k (first_fence part) ≡ true → n ≡ info_len here → f ≡ fence_from n rest → Some f ≡ fence_block part k rest
fence_here part rest here k n f e h m i =
    ap Some (i ∙ ap (λ j. fence_from j rest) (m ∙ ap info_len (sym e)))
    ∙ sym (ap (λ x. cond x (Some (fence_from (info_len (drop k part)) rest)) None) h)
