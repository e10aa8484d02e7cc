-- A line in a comment, in which one more comment opens, or one closes that another encloses.
use Rattle.std.proofs.Common.{◌≡◌, ℕ, ◌+◌, ◌-◌, ◌<◌, ◌≤◌, true, false, not, None, Some, ◌∷◌, refl, sym, ap, subst, length, drop, slice_index, arith}
use Rattle.tokei_table.specs.Row.{Pair}
use Rattle.tokei_parts.specs.Choice.Choice.{closes, opens}
use Rattle.tokei_parts.specs.Class.{in_comment, in_string}
use Rattle.tokei_parts.specs.Items.{Enclosure, Mode, enclosure}
use Rattle.tokei_embedding.specs.DocComments.{first_line}
use Rattle.tokei_table_row.specs.Bytes.{line_len}
use Rattle.tokei_parts.specs.Modes.{Chain, innermost}
use Rattle.tokei_parts.specs.PlainBytes.{IsPlainByte}
use Rattle.tokei_parts.specs.Places.{Begins, IsAt, choice_here, text_of}
use Rattle.tokei_parts.specs.Progress.{IsClosable, OpensInLine}
use Rattle.tokei_parts.specs.Reached.{Reaches, part_stop}
use Rattle.tokei_parts.specs.ReadingOf.{row_in, blocks_of}
use Rattle.tokei_parts.specs.Walked.{IsLine}
use Rattle.tokei_parts.specs.declared.class.Class.TheVariants.{Comment}
use Rattle.tokei_parts.specs.declared.items.ItemKind.{ItemKind}
use Rattle.tokei_parts.specs.declared.place.Place.{Place}
use Rattle.tokei_parts.proofs.Blocks.{blocks_fit}
use Rattle.tokei_parts.proofs.CodeHeads.{comment_part}
use Rattle.tokei_parts.proofs.LineEnds.{first_line-high}
use Rattle.tokei_parts.proofs.LineSteps.{reach_bytes}
use Rattle.tokei_parts.proofs.Reaching.{ahead, line_is, line_stops, reach_goes, reach_here, reach_none}
use Rattle.tokei_parts.proofs.Stepping.{goes_closer, goes_opener}
use Rattle.tokei_parts.proofs.Walking.{GoesIn}

-- what the opener and the closer at a place of the part take
module _ (p : Place) (c : Chain) (closable : IsClosable c) (here : IsAt p) (more : p.at < p.end) where
  -- the line goes on there
  some : 0 < line_len (drop p.at (text_of p))
  some = omega (arith, more, here.line)

  -- no child opens at a newline
  calm : OpensInLine (blocks_of p.reading.now)
  calm = (blocks_fit p.reading.now).in_line

  -- the opener, behind which its item is the innermost
  pub opener_here : (kind : ItemKind) (pair : Pair) → choice_here p (innermost c) ≡ opens kind pair → GoesIn p c (length pair.opener) 1 (enclosure kind pair ∷ c) p.at
  opener_here kind pair e =
      goes_opener (row_in p.reading.now) (blocks_of p.reading.now) p.behind_child p.reading.now.sound calm c (drop p.at (text_of p)) closable some kind pair e

  -- the closer of the innermost item
  pub closer_here : (inner : Enclosure) (d : Chain) → c ≡ inner ∷ d → choice_here p (innermost c) ≡ closes → GoesIn p c (length inner.closer) 1 d p.at
  closer_here inner d is e =
      subst (λ (b : Chain). GoesIn p b (length inner.closer) 1 d p.at) (sym is)
      (goes_closer (row_in p.reading.now) (blocks_of p.reading.now) p.behind_child p.reading.now.sound calm inner d (drop p.at (text_of p))
      (subst IsClosable is closable) some (subst (λ (b : Chain). choice_here p (innermost b) ≡ closes) is e))

-- in a comment no text is plain
enclosed : (m : Mode) → in_comment m ≡ true → m ≡ None → ⊥
enclosed m is none = cc

-- and no string goes on
no_string : (m : Mode) → in_comment m ≡ true → in_string m ≡ false
no_string None is = refl
no_string (Some e) is = ap not is

-- before the opener or closer each byte is one choice
module _ (p : Place) (c : Chain) (begins : Begins p) (closable : IsClosable c) (commented : in_comment (innermost c) ≡ true)
    (plain : ℕ) (low : p.start ≤ plain) (more : plain < p.end)
    (front : (q : ℕ) → p.start ≤ q → q < plain → IsPlainByte p.reading.now.matchers.now (innermost c) (slice_index (text_of p) q)) where
  -- where they lead
  reach_front : Reaches p c c plain (plain - p.start)
  reach_front =
      let place : p.start + (plain - p.start) ≡ plain = omega (arith, low) in
      let count : 0 + (plain - p.start) ≡ plain - p.start = omega arith in
      subst (Reaches p c c plain) count
      (subst (λ m. Reaches p c c m (0 + (plain - p.start))) place
      (reach_bytes p c c p.start 0 (plain - p.start) (reach_none p c begins closable) (omega (arith, place, more))
      (λ q from to. front q from (omega (arith, to, place))) (λ none. absurd (enclosed (innermost c) commented none))))

  -- so the line goes on to the opener or closer
  pub turn_here : IsAt (record { reading = p.reading; behind_child = p.behind_child; start = p.start; at = plain; end = p.end })
  turn_here = reach_here p c c plain (plain - p.start) reach_front more

  -- and behind it to its end
  module _ (d : Chain) (len : ℕ) (goes : GoesIn p c len 1 d plain) where
    -- the token stands in the line
    turn_high : plain + len ≤ p.end
    turn_high = omega (arith, goes.within, turn_here.line)

    module _ (again : in_comment (innermost d) ≡ true)
        (rest : (q : ℕ) → plain + len ≤ q → q < p.end → IsPlainByte p.reading.now.matchers.now (innermost d) (slice_index (text_of p) q)) where
      -- all bytes of the token are one choice
      reach_end : Reaches p c d p.end (p.end - p.start - (len - 1))
      reach_end =
          let left : ℕ = p.end - (plain + len) in
          let place : plain + len + left ≡ p.end = omega (arith, turn_high) in
          let count : plain - p.start + 1 + left ≡ p.end - p.start - (len - 1) = omega (arith, turn_high, low, goes.some) in
          subst (Reaches p c d p.end) count
          (subst (λ m. Reaches p c d m (plain - p.start + 1 + left)) place
          (reach_bytes p c d (plain + len) (plain - p.start + 1) left (reach_goes p c c plain (plain - p.start) reach_front more d len goes) (omega (arith, place))
          (λ q from to. rest q from (omega (arith, to, place))) (λ none. absurd (enclosed (innermost d) again none))))

      -- the line is a comment, each other byte of which is a choice
      pub nested_is : p.start < length (text_of p)
          → IsLine (row_in p.reading.now) (blocks_of p.reading.now) p.behind_child p.reading.now.docs_are_comments c d p.start (text_of p) (part_stop p - p.start - (len - 1)) Comment (part_stop p)
      nested_is inside =
          let stops : p.end ≤ part_stop p = line_stops p begins in
          let all : ℕ = part_stop p - p.start - (len - 1) in
          let steps : ℕ = p.end - p.start - (len - 1) in
          let one : p.end < part_stop p → all ≡ steps + 1 = λ left. omega (arith, left, begins.line, first_line-high (ahead p), turn_high, low) in
          let none : part_stop p ≤ p.end → all ≡ steps = λ over. omega (arith, over, stops) in
          line_is p c d p.end steps reach_end (omega arith) inside Comment
          (sym (comment_part (row_in p.reading.now) p.reading.now.docs_are_comments (first_line (ahead p)) (innermost c) (innermost d) commented (no_string (innermost d) again)))
          all one none
