-- The walk of a part goes on from the place that it has come to.
use Rattle.std.proofs.Common.{◌≡◌, ◌∙◌, ℕ, ◌+◌, ◌-◌, ◌<◌, ◌≤◌, ◌⊎◌, inl, inr, sym, ap, subst, List, length, drop, slice_index, arith, length-drop}
use Rattle.tokei_parts.specs.Items.{Block}
use Rattle.tokei_parts.specs.PlainBytes.{BeginsNone}
use Rattle.tokei_embedding.specs.DocComments.{first_line}
use Rattle.tokei_table_row.specs.Bytes.{line_len}
use Rattle.tokei_parts.specs.Class.{class_of}
use Rattle.tokei_parts.specs.Choice.{choice}
use Rattle.tokei_parts.specs.Choice.Choice.{takes_byte}
use Rattle.tokei_parts.specs.Modes.{Chain, innermost}
use Rattle.tokei_parts.specs.Places.{Begins, IsAt, block_from, text_of}
use Rattle.tokei_parts.specs.Progress.{IsClosable, IsPart, OpensChild, ReadsLine, newlines}
use Rattle.tokei_parts.specs.Reached.{Advances, BreaksOff, IsFront, IsReached, Reaches, part_stop, read_to}
use Rattle.tokei_parts.specs.ReadingOf.{row_in, blocks_of}
use Rattle.tokei_parts.specs.Walked.{IsLine, ReadsTo}
use Rattle.tokei_parts.specs.declared.class.Class.{Class}
use Rattle.tokei_parts.specs.declared.place.Place.{Place}
use Rattle.tokei_parts.specs.declared.walk.PartEnd.TheVariants.{Broken}
use Rattle.tokei_parts.specs.declared.walk.Reach.{Reach}
use Rattle.tokei_parts.proofs.Blocks.{blocks_fit}
use Rattle.tokei_parts.proofs.Leading.{lead_none}
use Rattle.tokei_parts.proofs.LineEnds.{end_later, end_within, first_line-low, first_line-high, below_or}
use Rattle.tokei_parts.proofs.Lines.{length-whole, length-broken, line_reads}
use Rattle.tokei_parts.proofs.PartFronts.{part_anew, part_on}
use Rattle.tokei_parts.proofs.PartReading.{block_opens, child_read_at}
use Rattle.tokei_parts.proofs.Stepping.{goes_byte}
use Rattle.tokei_parts.proofs.Walking.{LeadsIn, GoesIn, led_on}

-- the place of a part
abbrev pub place_at : Place → ℕ → Place
place_at p at = record {
  reading = p.reading;
  behind_child = p.behind_child;
  start = p.start;
  at = at;
  end = p.end;
}

-- its line ends in the text
pub end_in_text : (p : Place) → Begins p → p.end ≤ length (text_of p)
end_in_text p begins = end_within (text_of p) p.start p.end begins.part.high begins.line

-- and stops there or behind the newline
pub line_stops : (p : Place) → Begins p → p.end ≤ part_stop p
line_stops p begins = omega (arith, begins.line, first_line-low (drop p.start (text_of p)))

-- where a part begins
pub reach_none : (p : Place) (c : Chain) → Begins p → IsClosable c → Reaches p c c p.start 0
reach_none p c begins closable =
    let u : List ℕ = drop p.start (text_of p) in
    let here : p.start ≡ read_to p p.start = omega arith in
    let none : 0 ≡ read_to p p.start - p.start = omega arith in
    let no_steps : 0 ≡ 0 - (p.start - p.end) = omega arith in
    record {
      begins = begins;
      leads = subst (λ n. LeadsIn p c n (0 - (p.start - p.end)) c u) none
          (subst (λ j. LeadsIn p c 0 j c u) no_steps (lead_none (row_in p.reading.now) (blocks_of p.reading.now) p.behind_child c u));
      closable = closable;
      under_way = subst (IsPart (text_of p) p.behind_child p.start) here begins.part;
      line = begins.line ∙ ap (λ m. m + line_len (drop m (text_of p))) here;
      few = omega arith;
      begun = omega arith;
      high = omega arith;
    }

module _ (p : Place) (b c : Chain) (at steps : ℕ) (r : Reaches p b c at steps) (more : at < p.end) where
  here : read_to p at ≡ at
  here = omega (arith, more)

  -- the part is under way there
  pub reach_here : IsAt (place_at p at)
  reach_here = record {
    part = subst (IsPart (text_of p) p.behind_child p.start) here r.under_way;
    line = r.line ∙ ap (λ m. m + line_len (drop m (text_of p))) here;
  }

  led_here : LeadsIn p b (at - p.start) steps c (drop p.start (text_of p))
  led_here =
      let none : steps - (at - p.end) ≡ steps = omega (arith, more) in
      subst (λ j. LeadsIn p b (at - p.start) j c (drop p.start (text_of p))) none
      (subst (λ m. LeadsIn p b (m - p.start) (steps - (at - p.end)) c (drop p.start (text_of p))) here r.leads)

  -- the line stops behind the bytes before its newline
  pub stop_low : p.end ≤ part_stop p
  stop_low = omega (arith, r.begins.line, first_line-low (drop p.start (text_of p)))

  -- and takes its newline, where there is one
  newlines_are : newlines (drop at (text_of p)) ≡ part_stop p - p.end
  newlines_are = by_case (below_or p.end (length (text_of p)))
    where
      t : List ℕ
      t = drop p.start (text_of p)

      u : List ℕ
      u = drop at (text_of p)

      by_case : (p.end < length (text_of p)) ⊎ (length (text_of p) ≤ p.end) → newlines u ≡ part_stop p - p.end
      by_case (inl h) =
          let first : length (first_line t) ≡ line_len t + 1 = length-broken t (omega (arith, h, r.begins.line, length-drop p.start (text_of p))) in
          let later : length (first_line u) ≡ line_len u + 1 = length-broken u (omega (arith, h, reach_here.line, length-drop at (text_of p))) in
          omega (arith, first, later, r.begins.line)
      by_case (inr h) =
          let first : length (first_line t) ≡ line_len t = length-whole t (omega (arith, h, r.begins.line, length-drop p.start (text_of p))) in
          let later : length (first_line u) ≡ line_len u = length-whole u (omega (arith, h, reach_here.line, length-drop at (text_of p))) in
          omega (arith, first, later, r.begins.line)

  -- the line of the place stops there too
  pub stops_here : part_stop p ≡ at + length (first_line (drop at (text_of p)))
  stops_here = omega (arith, newlines_are, reach_here.line, stop_low, first_line-low (drop at (text_of p)))

  -- so many bytes of the line lead on, as so many choices, to the place `next`
  pub reach_on : (d : Chain) (n j next further : ℕ) → LeadsIn p c n j d (drop at (text_of p)) → IsClosable d
      → n ≤ line_len (drop at (text_of p)) → next - (next - p.end) ≡ at + n → next ≤ part_stop p
      → further - (next - p.end) ≡ steps + j → further ≤ next - p.start → next - p.end ≤ further
      → Reaches p b d next further
  reach_on d n j next further leads closable within place high count few begun =
      let low : p.start ≤ at = reach_here.part.low in
      let there : at + n ≡ read_to p next = sym place in
      let line : p.end ≡ at + line_len (drop at (text_of p)) = reach_here.line in
      let behind : at + n ≤ p.end = omega (arith, line, within) in
      record {
        begins = r.begins;
        leads =
            led_on (row_in p.reading.now) (blocks_of p.reading.now) p.behind_child (text_of p) p.start
            at b c d (read_to p next - p.start) steps n j (further - (next - p.end)) low led_here
            leads (ap (λ m. m - p.start) there) (sym count);
        closable = closable;
        under_way = subst (IsPart (text_of p) p.behind_child p.start) there
            (part_on (text_of p) p.behind_child p.start at n reach_here.part within);
        line = end_later (text_of p) at (at + n) p.end (omega arith) line behind
            ∙ ap (λ m. m + line_len (drop m (text_of p))) there;
        few = few;
        begun = begun;
        high = high;
      }

  -- a choice takes so many bytes
  pub reach_goes : (d : Chain) (n : ℕ) → GoesIn p c n 1 d at → Reaches p b d (at + n) (steps + 1)
  reach_goes d n goes =
      let low : p.start ≤ at = reach_here.part.low in
      let behind : at + n ≤ p.end = omega (arith, reach_here.line, goes.within) in
      reach_on d n 1 (at + n) (steps + 1) goes.leads goes.closable goes.within
      (omega (arith, behind)) (omega (arith, behind, stop_low)) (omega (arith, behind))
      (omega (arith, r.few, goes.some, low)) (omega (arith, behind))

  -- a choice takes one byte
  pub reach_byte : choice (row_in p.reading.now) (innermost c) (block_from p at) (drop at (text_of p)) ≡ takes_byte → Reaches p b c (at + 1) (steps + 1)
  reach_byte is =
      reach_goes c 1
      (goes_byte (row_in p.reading.now) (blocks_of p.reading.now) p.behind_child p.reading.now.sound (blocks_fit p.reading.now).in_line
      c (drop at (text_of p)) r.closable (omega (arith, reach_here.line, more)) is)

  -- a choice takes the rest of the line, and the newline there
  pub reach_rest : (d : Chain) → GoesIn p c (line_len (drop at (text_of p))) (1 - newlines (drop at (text_of p))) d at
      → Reaches p b d (part_stop p) (steps + 1)
  reach_rest d goes =
      let u : List ℕ = drop at (text_of p) in
      let t : List ℕ = drop p.start (text_of p) in
      let low : p.start ≤ at = reach_here.part.low in
      let line : p.end ≡ at + line_len u = reach_here.line in
      let ends : newlines u ≡ part_stop p - p.end = newlines_are in
      let least : length (first_line t) ≤ line_len t + 1 = first_line-high t in
      reach_on d (line_len u) (1 - newlines u) (part_stop p) (steps + 1) goes.leads goes.closable (omega arith)
      (omega (arith, line, stop_low)) (omega arith) (omega (arith, ends, stop_low, r.begins.line, least))
      (omega (arith, r.few, goes.some, low, line, stop_low)) (omega (arith, r.begins.line, least))

  -- a child that opens there breaks the part off
  pub reach_child : (d : Chain) (k : Block)
      → OpensChild (row_in p.reading.now) (blocks_of p.reading.now) p.behind_child c k d (drop at (text_of p))
      → ReadsTo (row_in p.reading.now) (blocks_of p.reading.now) p.behind_child p.reading.now.docs_are_comments b d p.start (text_of p) (steps + 1) (Broken at)
  reach_child d k opens = (
    k,
    steps,
    omega arith,
    record {
      part = reach_here.part;
      few = r.few;
      opens =
          block_opens (row_in p.reading.now) (blocks_of p.reading.now) (blocks_fit p.reading.now)
          p.reading.now.sound p.behind_child p.reading.now.docs_are_comments k c d
          (drop at (text_of p)) opens;
      reads = child_read_at (row_in p.reading.now) (blocks_of p.reading.now) (blocks_fit p.reading.now) p.reading.now.sound p.behind_child p.reading.now.docs_are_comments
          b d c p.start at k (text_of p) reach_here.part steps led_here opens;
      inside = omega (arith, r.begins.line, more);
    },
  )

-- the same, of what the walk has come to
module _ (p : Place) (c d : Chain) (reach further : Reach) (more : reach.at < p.end) (counted : further.steps ≡ reach.steps + 1) where
  pub advance_goes : (n : ℕ) → GoesIn p c n 1 d reach.at → further.at ≡ reach.at + n → Advances p c reach d further
  advance_goes n goes place = record {
    on = omega (arith, place, goes.some);
    goes_on = λ b r.
        subst (λ m. Reaches p b d m further.steps) (sym place)
        (subst (Reaches p b d (reach.at + n)) (sym counted) (reach_goes p b c reach.at reach.steps r more d n goes));
  }

  pub advance_rest : GoesIn p c (line_len (drop reach.at (text_of p))) (1 - newlines (drop reach.at (text_of p))) d reach.at
      → IsReached p c reach → further.at ≡ part_stop p → Advances p c reach d further
  advance_rest goes reached place = record {
    on = omega (arith, place, more, stop_low p reached.0 c reach.at reach.steps reached.1 more);
    goes_on = λ b r.
        subst (λ m. Reaches p b d m further.steps) (sym place)
        (subst (Reaches p b d (part_stop p)) (sym counted) (reach_rest p b c reach.at reach.steps r more d goes));
  }

  pub child_breaks : (k : Block)
      → OpensChild (row_in p.reading.now) (blocks_of p.reading.now) p.behind_child c k d (drop reach.at (text_of p))
      → further.at ≡ reach.at → BreaksOff p c reach d further
  child_breaks k opens place = record {
    same = place;
    reads = λ b r.
        subst (λ m. ReadsTo (row_in p.reading.now) (blocks_of p.reading.now) p.behind_child p.reading.now.docs_are_comments b d p.start (text_of p) further.steps (Broken m)) (sym place)
        (subst (λ s. ReadsTo (row_in p.reading.now) (blocks_of p.reading.now) p.behind_child p.reading.now.docs_are_comments b d p.start (text_of p) s (Broken reach.at)) (sym counted)
        (reach_child p b c reach.at reach.steps r more d k opens));
  }

-- the bytes of the part, and what follows
abbrev pub ahead : Place → List ℕ
ahead p = drop p.start (text_of p)

-- where the line was walked to its end
module _ (p : Place) (b c : Chain) (at steps : ℕ) (r : Reaches p b c at steps) (ended : p.end ≤ at) where
  stop_high : part_stop p ≤ p.end + 1
  stop_high = omega (arith, r.begins.line, first_line-high (ahead p))

  -- its newline is left
  pub newline_is : at < part_stop p → at ≡ p.end
  newline_is left = omega (arith, ended, left, stop_high)

  pub newline_here : at < part_stop p → IsAt (place_at p at)
  newline_here left =
      let here : read_to p at ≡ at = omega (arith, newline_is left) in
      record {
        part = subst (IsPart (text_of p) p.behind_child p.start) here r.under_way;
        line = r.line ∙ ap (λ m. m + line_len (drop m (text_of p))) here;
      }

  -- the part is a line
  pub line_is : p.start < length (text_of p) → (class : Class)
      → class ≡ class_of (row_in p.reading.now) p.reading.now.docs_are_comments (record { begun = innermost b; bytes = first_line (ahead p); ended = innermost c })
      → (all : ℕ) → (at < part_stop p → all ≡ steps + 1) → (part_stop p ≤ at → all ≡ steps)
      → IsLine (row_in p.reading.now) (blocks_of p.reading.now) p.behind_child p.reading.now.docs_are_comments b c p.start (text_of p) all class (part_stop p)
  line_is some class class_is all one none =
      let text : List ℕ = text_of p in
      let first : ℕ = length (first_line (ahead p)) in
      let here : read_to p at ≡ p.end = omega (arith, ended) in
      let part : IsPart text p.behind_child p.start p.end = subst (IsPart text p.behind_child p.start) here r.under_way in
      let line : p.end ≡ p.end + line_len (drop p.end text) = r.line ∙ ap (λ m. m + line_len (drop m text)) here in
      let len_is : length (ahead p) ≡ length text - p.start = length-drop p.start text in
      let whole : read_to p at - p.start ≡ line_len (ahead p) = omega (arith, here, r.begins.line) in
      let j : ℕ = steps - (at - p.end) in
      let leads : LeadsIn p b (line_len (ahead p)) j c (ahead p) = subst (λ n. LeadsIn p b n j c (ahead p)) whole r.leads in
      let read : ReadsLine (row_in p.reading.now) (blocks_of p.reading.now) p.behind_child p.reading.now.docs_are_comments b first (j + newlines (ahead p)) class c (ahead p) =
      line_reads (row_in p.reading.now) (blocks_of p.reading.now) p.behind_child p.reading.now.docs_are_comments b c (ahead p) class
      p.reading.now.sound (blocks_fit p.reading.now).in_line r.closable (omega (arith, len_is, some)) j leads class_is in
      let first_is : first ≡ part_stop p - p.start = omega arith in
      let steps_are : j + newlines (ahead p) ≡ all = by_place (below_or at (part_stop p)) in
      record {
        some = omega (arith, read.some);
        within = omega (arith, read.within, len_is, some);
        part = λ more.
            let next : p.end + 1 ≡ part_stop p = by_end (below_or p.end (length text)) more in
            subst (λ m. IsPart text p.behind_child m m) next
            (part_anew text p.behind_child p.start p.end part (omega (arith, line)) (omega (arith, next, more)));
        few = few_by (below_or at (part_stop p));
        line = omega arith;
        reads =
            subst (λ k. ReadsLine (row_in p.reading.now) (blocks_of p.reading.now) p.behind_child p.reading.now.docs_are_comments b (part_stop p - p.start) k class c (ahead p)) steps_are
            (subst (λ n. ReadsLine (row_in p.reading.now) (blocks_of p.reading.now) p.behind_child p.reading.now.docs_are_comments b n (j + newlines (ahead p)) class c (ahead p)) first_is read);
      }
    where
      low : line_len (ahead p) ≤ length (first_line (ahead p))
      low = first_line-low (ahead p)

      by_place : (at < part_stop p) ⊎ (part_stop p ≤ at) → steps - (at - p.end) + newlines (ahead p) ≡ all
      by_place (inl left) = omega (arith, one left, newline_is left, left, stop_high, r.begins.line, low)
      by_place (inr over) = omega (arith, none over, r.high, over, r.begun, r.begins.line, low, ended)

      few_by : (at < part_stop p) ⊎ (part_stop p ≤ at) → all ≤ part_stop p - p.start
      few_by (inl left) = omega (arith, one left, left, r.few, r.begins.line, ended)
      few_by (inr over) = omega (arith, none over, over, r.few, r.high)

      by_end : (p.end < length (text_of p)) ⊎ (length (text_of p) ≤ p.end) → part_stop p < length (text_of p) → p.end + 1 ≡ part_stop p
      by_end (inl h) more =
          let broken : length (first_line (ahead p)) ≡ line_len (ahead p) + 1 = length-broken (ahead p) (omega (arith, h, r.begins.line, length-drop p.start (text_of p))) in
          omega (arith, broken, r.begins.line)
      by_end (inr h) more = absurd (omega (arith, h, more, low, r.begins.line))

-- bytes behind its front at which no choice can begin are of the front too
pub front_on : (p : Place) (front from plain : ℕ) → from ≡ front → IsFront p front → from ≤ plain → plain ≤ p.end
    → ((q : ℕ) → from ≤ q → q < plain → BeginsNone p.reading.now.matchers.now (slice_index (text_of p) q)) → IsFront p plain
front_on p front from plain is f low high none = record {
  low = omega (arith, f.low, is, low);
  high = high;
  plain = λ q first last. elim (below_or q front) [
    | inl h ↦ f.plain q first h
    | inr h ↦ none q (omega (arith, is, h)) last
  ];
}

pub front_none : (p : Place) → Begins p → IsFront p p.start
front_none p begins = record {
  low = omega arith;
  high = omega (arith, begins.line);
  plain = λ q low high. absurd (omega (arith, low, high));
}
