-- Where the choices of a line lead, of which each takes as many bytes as are counted for it.
use Rattle.std.proofs.Common.{◌≡◌, ◌∙◌, ℕ, ◌+◌, ◌-◌, ◌<◌, ◌≤◌, inl, inr, Option, None, Some, arith, drop, length, refl, slice_index, subst, sym, zero, suc}
use Rattle.tokei_parts.specs.LineWalk.{chain_in, reach_of}
use Rattle.tokei_table_row.specs.Bytes.{line_len}
use Rattle.tokei_parts.specs.Modes.{Chain, innermost}
use Rattle.tokei_parts.specs.PlainBytes.{IsPlainByte}
use Rattle.tokei_parts.specs.Places.{Begins, block_from, text_of}
use Rattle.tokei_parts.specs.Progress.{newlines}
use Rattle.tokei_parts.specs.Reached.{Advances, GoesOn, IsChildless, IsReached, Reaches, part_stop}
use Rattle.tokei_parts.specs.ReadingOf.{row_in}
use Rattle.tokei_parts.specs.SeenChoices.{mode_of}
use Rattle.tokei_parts.specs.declared.items.Enclosure as Code
use Rattle.tokei_parts.specs.declared.line_walk.LineReach.{LineReach}
use Rattle.tokei_parts.specs.declared.place.Place.{Place}
use Rattle.tokei_parts.proofs.LineEnds.{below_or, end_within}
use Rattle.tokei_parts.proofs.OneItem.{innermost_in}
use Rattle.tokei_parts.proofs.PlainBytes.{plain_byte_at}
use Rattle.tokei_parts.proofs.Reaching.{advance_goes, advance_rest, end_in_text, reach_byte, stop_low}
use Rattle.tokei_parts.proofs.Walking.{GoesIn}

-- n bytes at which nothing but the byte itself can begin are n choices
pub reach_bytes : (p : Place) (b c : Chain) (at steps n : ℕ) → Reaches p b c at steps → at + n ≤ p.end
    → ((q : ℕ) → at ≤ q → q < at + n → IsPlainByte p.reading.now.matchers.now (innermost c) (slice_index (text_of p) q))
    → (innermost c ≡ None → IsChildless p at (at + n))
    → Reaches p b c (at + n) (steps + n)
reach_bytes p b c at steps zero r inside plain childless =
    let place : at ≡ at + zero = omega arith in
    let count : steps ≡ steps + zero = omega arith in
    subst (Reaches p b c (at + zero)) count (subst (λ m. Reaches p b c m steps) place r)
reach_bytes p b c at steps (suc n) r inside plain childless =
    let low : at ≤ at + n = omega arith in
    let less : at + n < at + suc n = omega arith in
    let more : at + n < p.end = omega (arith, inside) in
    let before : Reaches p b c (at + n) (steps + n) =
    reach_bytes p b c at steps n r (omega (arith, inside)) (λ q from to. plain q from (omega (arith, to))) (λ none q from to. childless none q from (omega (arith, to))) in
    let next : Reaches p b c (at + n + 1) (steps + n + 1) =
    reach_byte p b c (at + n) (steps + n) before more
    (plain_byte_at (row_in p.reading.now) p.reading.now.sound (innermost c) (block_from p (at + n)) (text_of p) (at + n) p.reading.now.matchers.now p.reading.now.matched
    (omega (arith, more, end_in_text p r.begins)) (plain (at + n) low less) (λ none. childless none (at + n) low less)) in
    let place : at + n + 1 ≡ at + suc n = omega arith in
    let count : steps + n + 1 ≡ steps + suc n = omega arith in
    subst (Reaches p b c (at + suc n)) count (subst (λ m. Reaches p b c m (steps + n + 1)) place next)

-- the same, of how far the walk of a line has come
pub bytes_go : (p : Place) (item : Option Code.Enclosure) (reach further : LineReach) → reach.base ≤ reach.at → further.base ≡ reach.base
    → reach.at ≤ further.at → further.at ≤ p.end
    → ((q : ℕ) → reach.at ≤ q → q < further.at → IsPlainByte p.reading.now.matchers.now (mode_of item) (slice_index (text_of p) q))
    → (item ≡ None → IsChildless p reach.at further.at)
    → GoesOn p (chain_in item) (reach_of reach) (chain_in item) (reach_of further)
bytes_go p item reach further low same on inside plain childless = λ chain reaches.
    let n : ℕ = further.at - reach.at in
    let place : reach.at + n ≡ further.at = omega (arith, on) in
    let count : reach.at - reach.base + n ≡ further.at - further.base = omega (arith, low, same, on) in
    subst (Reaches p chain (chain_in item) further.at) count
    (subst (λ m. Reaches p chain (chain_in item) m (reach.at - reach.base + n)) place
    (reach_bytes p chain (chain_in item) reach.at (reach.at - reach.base) n reaches (omega (arith, place, inside))
    (λ q from to. subst (λ m. IsPlainByte p.reading.now.matchers.now m (slice_index (text_of p) q)) (sym (innermost_in item)) (plain q from (omega (arith, to, place))))
    (λ none q from to. childless (none_of item (sym (innermost_in item) ∙ none)) q from (omega (arith, to, place)))))
  where
    none_of : (i : Option Code.Enclosure) → mode_of i ≡ None → i ≡ None
    none_of None e = refl
    none_of (Some i) e = absurd cc

-- the bytes of a choice stand in the text
pub choice_high : (p : Place) (c d : Chain) (at n : ℕ) → Begins p → at < p.end → GoesIn p c n 1 d at → at + n ≤ length (text_of p)
choice_high p c d at n begins more goes =
    let low : at ≤ length (text_of p) = omega (arith, more, end_in_text p begins) in
    omega (arith, goes.within, end_within (text_of p) at (at + line_len (drop at (text_of p))) low refl)

module _ (p : Place) (c d : Chain) (reach further : LineReach) (low : reach.base ≤ reach.at) (more : reach.at < p.end) where
  -- one choice takes n bytes
  pub choice_goes : (n : ℕ) → GoesIn p c n 1 d reach.at → further.at ≡ reach.at + n → further.base ≡ reach.base + (n - 1)
      → Advances p c (reach_of reach) d (reach_of further)
  choice_goes n goes place counted =
      advance_goes p c d (reach_of reach) (reach_of further) more (omega (arith, low, place, counted, goes.some)) n goes place

  -- one choice takes the rest of the line, and the newline there
  pub rest_leads : (n : ℕ) → GoesIn p c (line_len (drop reach.at (text_of p))) (1 - newlines (drop reach.at (text_of p))) d reach.at
      → IsReached p c (reach_of reach) → reach.at + n ≡ part_stop p → further.at ≡ reach.at + n → further.base ≡ reach.base + (n - 1)
      → Advances p c (reach_of reach) d (reach_of further)
  rest_leads n goes reached stop place counted =
      let high : p.end ≤ part_stop p = stop_low p reached.0 c reach.at (reach.at - reach.base) reached.1 more in
      advance_rest p c d (reach_of reach) (reach_of further) more (omega (arith, low, place, counted, stop, high, more)) goes reached (place ∙ stop)

-- bytes that go no further than the line's end, if there are any, end in the line
pub plain_high : (at plain end : ℕ) → at < end → (at < plain → plain ≤ end) → plain ≤ end
plain_high at plain end more high = elim (below_or at plain) [
  | inl h ↦ high h
  | inr h ↦ omega (arith, h, more)
]
