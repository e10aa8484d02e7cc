use Rattle.std.proofs.Common.{◌≡◌, ℕ, ◌∙◌, ◌+◌, ◌-◌, ◌<◌, ◌≤◌, true, Some, ap, arith, slice_index, subst, sym}
use Rattle.tokei_parts.specs.Class.{in_comment}
use Rattle.tokei_parts.specs.Modes.{Chain, innermost}
use Rattle.tokei_parts.specs.NestedLine.{IsTurn, turned}
use Rattle.tokei_parts.specs.Places.{IsAt, text_of}
use Rattle.tokei_parts.specs.Progress.{IsClosable}
use Rattle.tokei_parts.specs.PlainBytes.{IsPlainByte}
use Rattle.tokei_parts.specs.Reached.{part_stop}
use Rattle.tokei_parts.specs.ReadingOf.{row_in, blocks_of}
use Rattle.tokei_parts.specs.Seen.{chain_of}
use Rattle.tokei_parts.specs.SeenChoices.{enclosure_of}
use Rattle.tokei_parts.specs.Walked.{IsLine}
use Rattle.tokei_parts.specs.declared.class.Class.TheVariants.{Comment}
use Rattle.tokei_parts.proofs.LineEnds.{end_is}
use Rattle.tokei_parts.proofs.NestedLines.{nested_is, turn_here}
use Rattle.tokei_parts.proofs.Reaching.{end_in_text, line_stops, place_at}
use Rattle.tokei_parts.proofs.nested_line.read_nested_line.Goals as goal
use Rattle.tokei_parts.proofs.nested_line.read_nested_line.Goals.{After-deref-2, After-line_stop-stop, Else-not-is_comment-2}

-- the items that enclose the line's begin, of which the innermost is a comment
abbrev chain_here : After-deref-2 → Chain
chain_here c = chain_of c.args.stack.now.items

within : (c : After-deref-2) → Some (enclosure_of c.in-Some.item) ≡ innermost (chain_here c)
within c = c.in-Some.ensures ∙ ap (λ es. innermost (chain_of es)) c.deref.ensures.value

commented : (c : After-deref-2) → in_comment (innermost (chain_here c)) ≡ true
commented c = ap in_comment (sym (within c)) ∙ sym c.is_comment.ensures ∙ c.if-not-is_comment.false

-- before the opener or closer a byte stands for itself
front : (c : After-deref-2) → (q : ℕ) → c.args.part.now.start ≤ q → q < c.item_end-plain.result
    → IsPlainByte c.args.part.now.reading.now.matchers.now (innermost (chain_here c)) (slice_index (text_of c.args.part.now) q)
front c q low before =
    subst (λ m. IsPlainByte c.args.part.now.reading.now.matchers.now m (slice_index (text_of c.args.part.now) q)) (within c) (c.item_end-plain.ensures.plain q low before)

-- where it stands
here : (c : After-deref-2) → IsAt (place_at c.args.part.now c.item_end-plain.result)
here c =
    turn_here c.args.part.now (chain_here c) c.requires.begins c.requires.closable (commented c) c.item_end-plain.result c.item_end-plain.ensures.low c.if-part-plain.false (front c)

-- what it is
turns : (c : Else-not-is_comment-2) → IsTurn (place_at c.args.part.now c.item_end-plain.result) (chain_of c.args.stack.now.items) c.in-Some-turn_at.turn
turns c =
    subst (λ es. IsTurn (place_at c.args.part.now c.item_end-plain.result) (chain_of es) c.in-Some-turn_at.turn) c.deref-2.ensures.value c.in-Some-turn_at.ensures

-- and it ends in the line
high : (c : Else-not-is_comment-2) → IsAt (place_at c.args.part.now c.item_end-plain.result)
    → c.item_end-plain.result + c.in-Some-turn_at.turn.len ≤ c.args.part.now.end
high c there = omega (arith, (turns c).goes.within, there.line)

pub item_end-plain-requires : goal.item_end-plain-requires
item_end-plain-requires c = end_in_text c.args.part.now c.requires.begins

pub item_end-requires : goal.item_end-requires
item_end-requires c = end_in_text c.args.part.now c.requires.begins

pub line_stop-stop-requires : goal.line_stop-stop-requires
line_stop-stop-requires c = end_in_text c.args.part.now c.requires.begins

pub turn_at-requires-clause-here : goal.turn_at-requires-clause-here
turn_at-requires-clause-here c = here (goal.at.turn_at-requires-clause-here c).After-deref-2

pub overflow_add-behind : goal.overflow_add-behind
overflow_add-behind c =
    let d = goal.at.overflow_add-behind c in
    omega (arith, high d.Else-not-is_comment-2 (here d.After-deref-2))

-- where the line stops
stop_is : (c : After-line_stop-stop) → c.line_stop-stop.result ≡ part_stop c.args.part.now
stop_is c =
    let p = c.args.part.now in
    end_is (text_of p) p.start p.end c.line_stop-stop.result c.requires.begins.part.high c.requires.begins.line c.line_stop-stop.ensures.more c.line_stop-stop.ensures.last

-- it isn't before its newline
stops : (c : After-line_stop-stop) → c.args.part.now.end ≤ c.line_stop-stop.result
stops c = omega (arith, stop_is c, line_stops c.args.part.now c.requires.begins)

pub overflow_sub-steps : goal.overflow_sub-steps
overflow_sub-steps c = omega (arith, stops c, c.item_end-plain.ensures.low, c.if-part-plain.false)

pub overflow_sub-steps-3 : goal.overflow_sub-steps-3
overflow_sub-steps-3 c =
    let d = goal.at.overflow_sub-steps-3 c in
    omega (arith, stops c, c.item_end-plain.ensures.low, high d.Else-not-is_comment-2 (here d.After-deref-2))

pub returns-clause-reads : goal.returns-clause-reads
returns-clause-reads c =
    let p = c.args.part.now in
    let d = goal.at.returns-clause-reads c in
    let turns_there = turns d.Else-not-is_comment-2 in
    let turn = c.in-Some-turn_at.turn in
    let last : Chain = turned turn (chain_of c.args.stack.now.items) in
    let again : in_comment (innermost last) ≡ true = ap in_comment turns_there.within ∙ sym c.is_comment-2.ensures ∙ c.if-not-is_comment-2.false in
    let rest : (q : ℕ) → c.item_end-plain.result + turn.len ≤ q → q < p.end → IsPlainByte p.reading.now.matchers.now (innermost last) (slice_index (text_of p) q) = λ q low before.
    subst (λ m. IsPlainByte p.reading.now.matchers.now m (slice_index (text_of p) q)) (sym turns_there.within)
    (c.item_end.ensures.plain q low (omega (arith, before, c.if-item_end-part.false))) in
    subst (λ stop. IsLine (row_in p.reading.now) (blocks_of p.reading.now) p.behind_child p.reading.now.docs_are_comments (chain_here d.After-deref-2)
    (chain_of c.take_turn.new.stack.items) p.start (text_of p) (stop - p.start - (turn.len - 1)) Comment stop) (sym (stop_is c))
    (subst (λ (e : Chain). IsLine (row_in p.reading.now) (blocks_of p.reading.now) p.behind_child p.reading.now.docs_are_comments (chain_here d.After-deref-2)
    e p.start (text_of p) (part_stop p - p.start - (turn.len - 1)) Comment (part_stop p)) (sym c.in_ok-take_turn.ensures)
    (nested_is p (chain_here d.After-deref-2) c.requires.begins c.requires.closable (commented d.After-deref-2) c.item_end-plain.result c.item_end-plain.ensures.low c.if-part-plain.false
    (front d.After-deref-2) last turn.len turns_there.goes again rest c.requires.some))

pub turn_at-requires-clause-closable : goal.turn_at-requires-clause-closable
turn_at-requires-clause-closable c = subst (λ es. IsClosable (chain_of es)) (sym c.deref-2.ensures.value) c.requires.closable

pub turn_at-requires-clause-some : goal.turn_at-requires-clause-some
turn_at-requires-clause-some c = c.if-part-plain.false

pub overflow_sub-steps-2 : goal.overflow_sub-steps-2
overflow_sub-steps-2 c = (turns (goal.at.overflow_sub-steps-2 c).Else-not-is_comment-2).goes.some
