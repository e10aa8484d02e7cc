use Rattle.std.proofs.Common.{◌≡◌, ◌∙◌, ℕ, ◌+◌, ◌-◌, ◌<◌, ◌≤◌, sym, ap, subst, take, drop, length, arith}
use Rattle.tokei_parts.specs.Choice.{choice}
use Rattle.tokei_parts.specs.Class.{class_of}
use Rattle.tokei_embedding.specs.DocComments.{first_line}
use Rattle.tokei_parts.specs.Modes.{Chain, innermost}
use Rattle.tokei_parts.specs.Reached.{part_stop}
use Rattle.tokei_parts.specs.ReadingOf.{row_in, blocks_of}
use Rattle.tokei_parts.specs.Seen.{chain_of}
use Rattle.tokei_parts.specs.Walked.{IsLine}
use Rattle.tokei_parts.specs.declared.place.Place.{Place}
use Rattle.tokei_parts.proofs.LineEnds.{first_line-high}
use Rattle.tokei_parts.proofs.Lines.{take-first}
use Rattle.tokei_parts.specs.Places.{block_here, text_of}
use Rattle.tokei_parts.proofs.Leading.{newline_byte}
use Rattle.tokei_parts.proofs.NewlineHere as Newline
use Rattle.tokei_parts.proofs.Reaching.{ahead, line_is, line_stops, newline_here, newline_is, place_at}
use Rattle.tokei_parts.proofs.Stepping.{top_closed}
use Rattle.tokei_parts.proofs.walk.end_line.Goals as goal

-- the walk didn't go behind the line
pub overflow_sub-steps : goal.overflow_sub-steps
overflow_sub-steps c = omega (arith, c.requires.reached.1.high, c.requires.stop)

-- there are no more steps than bytes
pub overflow_add-steps : goal.overflow_add-steps
overflow_add-steps c =
    omega (arith, c.requires.reached.1.few, c.requires.reached.1.high, c.requires.stop, c.requires.within)

pub returns-clause-reads : goal.returns-clause-reads
returns-clause-reads c = λ chain kind reaches.
    let p : Place = c.args.part.now in
    let ended : Chain = chain_of c.args.stack.now in
    let at : ℕ = c.args.reach.at in
    let steps : ℕ = c.args.reach.steps in
    let all : ℕ = steps + (c.args.stop - at) in
    let bytes_are : take (c.args.stop - p.start) (ahead p) ≡ first_line (ahead p) = ap (λ n. take n (ahead p)) (omega (arith, c.requires.stop)) ∙ take-first (ahead p) in
    let class_is : c.class_by-class.result ≡ class_of (row_in p.reading.now) p.reading.now.docs_are_comments
    (record { begun = innermost chain; bytes = first_line (ahead p); ended = innermost ended }) =
    c.class_by-class.ensures (innermost chain) kind
    ∙ ap (λ b. class_of (row_in p.reading.now) p.reading.now.docs_are_comments (record { begun = innermost chain; bytes = b; ended = innermost ended })) bytes_are in
    let one : at < part_stop p → all ≡ steps + 1 = λ left.
    omega (arith, left, newline_is p chain ended at steps reaches c.requires.ended left, c.requires.stop, reaches.begins.line, first_line-high (ahead p)) in
    let none : part_stop p ≤ at → all ≡ steps = λ over. omega (arith, over, reaches.high, c.requires.stop) in
    subst (IsLine (row_in p.reading.now) (blocks_of p.reading.now) p.behind_child p.reading.now.docs_are_comments chain ended p.start (text_of p) all c.class_by-class.result) (sym c.requires.stop)
    (line_is p chain ended at steps reaches c.requires.ended c.requires.some c.class_by-class.result class_is all one none)

pub class_by-class-requires-clause-high : goal.class_by-class-requires-clause-high
class_by-class-requires-clause-high c =
    omega (arith, c.requires.front.high, c.requires.stop, line_stops c.args.part.now c.requires.reached.1.begins)

pub class_by-class-requires-clause-plain : goal.class_by-class-requires-clause-plain
class_by-class-requires-clause-plain c = c.requires.front.plain

-- nothing but the byte fits at a newline
pub returns-clause-newline : goal.returns-clause-newline
returns-clause-newline c = λ left.
    let p : Place = c.args.part.now in
    let at : ℕ = c.args.reach.at in
    let chain : Chain = chain_of c.args.stack.now in
    let here : Place = place_at p at in
    let begun = c.requires.reached in
    let more : at < part_stop p = omega (arith, left, c.requires.stop) in
    let some : at < length (text_of p) = omega (arith, left, c.requires.within) in
    let is_at = newline_here p begun.0 chain at c.args.reach.steps begun.1 c.requires.ended more in
    let last = newline_is p begun.0 chain at c.args.reach.steps begun.1 c.requires.ended more in
    ap (choice (row_in p.reading.now) (innermost chain) (block_here here)) (Newline.newline_here here is_at last some)
    ∙ newline_byte (row_in p.reading.now) (block_here here) (innermost chain) (drop 1 (drop at (text_of p))) p.reading.now.sound
    (top_closed chain begun.1.closable) (Newline.childless_here here is_at last some)
