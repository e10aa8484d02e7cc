-- The walk of a part goes on by a choice.
use Rattle.std.proofs.Common.{◌≡◌, ◌∙◌, ℕ, ◌+◌, ◌-◌, ◌≤◌, sym, ap, subst, List, drop, Option, arith}
use Rattle.std.proofs.lemmas.List.{drop-drop}
use Rattle.tokei_table.specs.Row.{Row}
use Rattle.tokei_parts.specs.Items.{Block}
use Rattle.tokei_parts.specs.Modes.{Chain}
use Rattle.tokei_parts.specs.Places.{text_of}
use Rattle.tokei_parts.specs.Progress.{Leads, Goes}
use Rattle.tokei_parts.specs.ReadingOf.{row_in, blocks_of}
use Rattle.tokei_parts.specs.Walked.{Moves}
use Rattle.tokei_parts.specs.declared.place.Place.{Place}
use Rattle.tokei_parts.specs.declared.walk.Move.{Move}
use Rattle.tokei_parts.proofs.Leading.{lead_on}

-- how a part leads on, what a choice at a place of it does, and what it takes
abbrev pub LeadsIn : Place → Chain → ℕ → ℕ → Chain → List ℕ → Type 0
LeadsIn p = Leads (row_in p.reading.now) (blocks_of p.reading.now) p.behind_child

abbrev pub MovesIn : Place → Chain → Chain → ℕ → Move → Type 0
MovesIn p c d at = Moves (row_in p.reading.now) (blocks_of p.reading.now) p.behind_child c d (text_of p) at

abbrev pub GoesIn : Place → Chain → ℕ → ℕ → Chain → ℕ → Type 0
GoesIn p c n j d at = Goes (row_in p.reading.now) (blocks_of p.reading.now) p.behind_child c n j d (drop at (text_of p))

-- behind the bytes from `start` to `at`, through k bytes more
pub led_on : (g : Row) (block : ℕ → List ℕ → Option Block) (l : ℕ) (text : List ℕ) (start at : ℕ) (c d e : Chain) (n j k y z : ℕ) → start ≤ at
    → Leads g block l c (at - start) j d (drop start text) → Leads g block l d k y e (drop at text) → at + k - start ≡ n → j + y ≡ z → Leads g block l c n z e (drop start text)
led_on g block l text start at c d e n j k y z low h f sum all =
    let place : start + (at - start) ≡ at = omega (arith, low) in
    let there : drop at text ≡ drop (at - start) (drop start text) = sym (drop-drop (at - start) start text ∙ ap (λ m. drop m text) place) in
    let sum_is : at - start + k ≡ n = omega (arith, low, sum) in
    subst (λ w. Leads g block l c n w e (drop start text)) all
    (subst (λ m. Leads g block l c m (j + y) e (drop start text)) sum_is
    (lead_on g block l c d e (at - start) k j y (drop start text) h (subst (Leads g block l d k y e) there f)))
