-- Places of a block at which an opener can stand, by the bytes that tell openers.
use Rattle.std.proofs.Common.{Bool, ◌≡◌, ℕ, zero, suc, ◌+◌, ◌/◌, ◌<◌, ◌≤◌, min, max, true, false, List, map, drop, length, get_or, bit_and, bit_or, inl, inr, refl, sym, ap, ◌∙◌, arith}
use Rattle.std.specs.Int.{bit_at}
use Rattle.std.specs.List.{list_all}
use Rattle.std.proofs.lemmas.Bool.{cases_lt}
use Rattle.std.proofs.lemmas.List.{get_or-drop}
use Rattle.std.proofs.lemmas.Nat.Bits.{bit_at-lt, bit_at-pow_same, bit_at-suc, bit_at_and, bit_at_or}
use lib.Lanes.{chunk, mask_l}
use Rattle.tokei_bytes.specs.Slots.{is_slotted}
use Rattle.tokei_table_row.specs.FirstOpener.{is_first, is_nonempty}
use Rattle.tokei_table_row.specs.Bytes.{begins_with_one}
use Rattle.tokei_table_search.proofs.ToldOpeners.{untold}
use Rattle.tokei_table_search.specs.Tellers.{AreTellers}
use Rattle.tokei_table_search.specs.declared.tellers.Tellers.{Tellers}
use Rattle.tokei_count.proofs.LookedAhead.{none_marked}

-- a bit of the places, where the byte is marked
module _ (alone seconds m k : ℕ) where
  abbrev places : ℕ
  places = bit_and (bit_or (bit_or alone (seconds / 2)) 2147483648) m

  bits : bit_at places k ≡ min (max (max (bit_at alone k) (bit_at seconds (k + 1))) (bit_at 2147483648 k)) (bit_at m k)
  bits =
      let next : bit_at (seconds / 2) k ≡ bit_at seconds (k + 1) = let one : suc k ≡ k + 1 = omega arith in sym (bit_at-suc seconds k) ∙ ap (bit_at seconds) one in
      bit_at_and (bit_or (bit_or alone (seconds / 2)) 2147483648) m k
      ∙ ap (λ n. min n (bit_at m k)) (bit_at_or (bit_or alone (seconds / 2)) 2147483648 k ∙ ap (λ n. max n (bit_at 2147483648 k)) (bit_at_or alone (seconds / 2) k ∙ ap (max (bit_at alone k)) next))

  pub unset_alone : bit_at places k ≡ 0 → bit_at m k ≡ 1 → bit_at alone k ≡ 0
  unset_alone h set = omega (arith, h, set, bits)

  pub unset_second : bit_at places k ≡ 0 → bit_at m k ≡ 1 → bit_at seconds (k + 1) ≡ 0
  unset_second h set = omega (arith, h, set, bits)

-- the block's last byte can, where it is marked
pub last_place : (alone seconds m : ℕ) → bit_at (bit_and (bit_or (bit_or alone (seconds / 2)) 2147483648) m) 31 ≡ 0 → bit_at m 31 ≡ 0
last_place alone seconds m h = omega (arith, h, bits alone seconds m 31, bit_at-pow_same 31, bit_at-lt m 31)

-- no opener stands at the other places
module _ (os : List (List ℕ)) (is_mark : ℕ → Bool) (text : List ℕ) (t : Tellers) (from m can : ℕ) (all : list_all is_nonempty os ≡ true)
    (none : (x : ℕ) → is_mark x ≡ false → is_first os x ≡ false) (tellers : AreTellers t os) (room : from + 32 ≤ length text)
    (ms : m ≡ mask_l (map is_mark (chunk from 32 text)))
    (others : (k : ℕ) → bit_at can k ≡ 0 → bit_at m k ≡ 1 → k < 31
    → (is_slotted t.alone (get_or text (from + k) 0) ≡ false) × (is_slotted t.seconds (get_or text (from + k + 1) 0) ≡ false))
    (last : bit_at can 31 ≡ 0 → bit_at m 31 ≡ 0) where
  none_told : (k : ℕ) → k < 32 → bit_at can k ≡ 0 → bit_at m k ≡ 1 → begins_with_one os (drop (from + k) text) ≡ false
  none_told k low h set = elim (cases_lt k 31) [
    | inl inside ↦
        let bytes = others k h set inside in
        let same : from + k + 0 ≡ from + k = omega arith in
        let first : get_or (drop (from + k) text) 0 0 ≡ get_or text (from + k) 0 = get_or-drop (from + k) text 0 0 ∙ ap (λ j. get_or text j 0) same in
        untold t os (drop (from + k) text) tellers (ap (is_slotted t.alone) first ∙ bytes.0) (inr (ap (is_slotted t.seconds) (get_or-drop (from + k) text 1 0) ∙ bytes.1))
    | inr over ↦
        let there : k ≡ 31 = omega (arith, over, low) in
        let unset : bit_at m 31 ≡ 0 = last (ap (bit_at can) (sym there) ∙ h) in
        absurd (omega (arith, set, unset, ap (bit_at m) there))
  ]

  pub none_can : (k : ℕ) → k < 32 → bit_at can k ≡ 0 → begins_with_one os (drop (from + k) text) ≡ false
  none_can k low h = by_bit (bit_at m k) refl (bit_at-lt m k)
    where
      by_bit : (b : ℕ) → bit_at m k ≡ b → b < 2 → begins_with_one os (drop (from + k) text) ≡ false
      by_bit zero e l = none_marked os is_mark text from all none room m ms k low e
      by_bit (suc zero) e l = none_told k low h e
      by_bit (suc (suc b)) e l = absurd (omega (arith, l))
