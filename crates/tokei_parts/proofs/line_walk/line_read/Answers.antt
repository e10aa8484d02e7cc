use Rattle.std.proofs.Common.{◌≡◌, ◌∙◌, ℕ, ◌+◌, ◌-◌, ◌<◌, ◌≤◌, Option, sym, ap, subst, take, arith}
use Rattle.tokei_parts.specs.Class.{class_of}
use Rattle.tokei_parts.specs.LineWalk.{chain_in, item_in}
use Rattle.tokei_embedding.specs.DocComments.{first_line}
use Rattle.tokei_parts.specs.Modes.{Chain, innermost}
use Rattle.tokei_parts.specs.Places.{text_of}
use Rattle.tokei_parts.specs.Reached.{Reaches, part_stop}
use Rattle.tokei_parts.specs.ReadingOf.{row_in, blocks_of}
use Rattle.tokei_parts.specs.Walked.{IsLine}
use Rattle.tokei_parts.specs.declared.items.Enclosure as Code
use Rattle.tokei_parts.specs.declared.place.Place.{Place}
use Rattle.tokei_parts.specs.SeenChoices.{mode_of}
use Rattle.tokei_parts.proofs.LineEnds.{first_line-high}
use Rattle.tokei_parts.proofs.Lines.{take-first}
use Rattle.tokei_parts.proofs.OneItem.{innermost_in}
use Rattle.tokei_parts.proofs.Reaching.{ahead, line_is, line_stops, newline_is}
use Rattle.tokei_parts.proofs.line_walk.line_read.Goals as goal

-- the walk didn't go behind the line
pub overflow_sub-steps : goal.overflow_sub-steps
overflow_sub-steps c = omega (arith, c.requires.low, c.requires.reached.1.high, c.requires.stop)

pub class_by_item-class-requires-clause-high : goal.class_by_item-class-requires-clause-high
class_by_item-class-requires-clause-high c =
    omega (arith, c.requires.front.high, c.requires.stop, line_stops c.args.part.now c.requires.reached.1.begins)

pub class_by_item-class-requires-clause-plain : goal.class_by_item-class-requires-clause-plain
class_by_item-class-requires-clause-plain c = c.requires.front.plain

pub returns : goal.returns
returns c = λ chain kind begun.
    let p : Place = c.args.part.now in
    let item : Option Code.Enclosure = item_in c.args.item in
    let ended : Chain = chain_in item in
    let at : ℕ = c.args.reach.at in
    let steps : ℕ = at - c.args.reach.base in
    let all : ℕ = c.args.stop - c.args.reach.base in
    let reaches : Reaches p chain ended at steps = begun in
    let bytes_are : take (c.args.stop - p.start) (ahead p) ≡ first_line (ahead p) = ap (λ n. take n (ahead p)) (omega (arith, c.requires.stop)) ∙ take-first (ahead p) in
    let class_is : c.class_by_item-class.result ≡ class_of (row_in p.reading.now) p.reading.now.docs_are_comments
    (record { begun = innermost chain; bytes = first_line (ahead p); ended = innermost ended }) =
    c.class_by_item-class.ensures (innermost chain) kind
    ∙ ap (λ b. class_of (row_in p.reading.now) p.reading.now.docs_are_comments (record { begun = innermost chain; bytes = b; ended = mode_of item })) bytes_are
    ∙ ap (λ m. class_of (row_in p.reading.now) p.reading.now.docs_are_comments (record { begun = innermost chain; bytes = first_line (ahead p); ended = m })) (sym (innermost_in item)) in
    let one : at < part_stop p → all ≡ steps + 1 = λ left.
    omega (arith, left, newline_is p chain ended at steps reaches c.requires.ended left, c.requires.low, c.requires.stop, reaches.begins.line, first_line-high (ahead p)) in
    let none : part_stop p ≤ at → all ≡ steps = λ over. omega (arith, over, reaches.high, c.requires.stop) in
    let class = c.class_by_item-class.result in
    subst (IsLine (row_in p.reading.now) (blocks_of p.reading.now) p.behind_child p.reading.now.docs_are_comments chain ended p.start (text_of p) all class)
    (sym c.requires.stop)
    (line_is p chain ended at steps reaches c.requires.ended c.requires.some c.class_by_item-class.result class_is all one none)
