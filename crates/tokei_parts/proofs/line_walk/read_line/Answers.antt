use Rattle.std.proofs.Common.{◌≡◌, ℕ, ◌∙◌, ◌<◌, ◌≤◌, ◌-◌, ap, arith, sym, subst}
use Rattle.tokei_parts.specs.Items.{kind_in}
use Rattle.tokei_parts.specs.LineWalk.{chain_in, item_in, reach_of}
use Rattle.tokei_parts.specs.Places.{text_of}
use Rattle.tokei_parts.specs.Reached.{Advances, IsFront, Reaches}
use Rattle.tokei_parts.specs.declared.line_walk.LineReach.{LineReach}
use Rattle.tokei_parts.proofs.LineEnds.{end_is}
use Rattle.tokei_parts.proofs.OneItem.{innermost_in, kind_of_item}
use Rattle.tokei_parts.proofs.Reaching.{end_in_text, front_none, reach_none}
use Rattle.tokei_parts.proofs.line_walk.read_line.Goals as goal
use Rattle.tokei_parts.proofs.line_walk.read_line.Goals.{Else-not-goes_on, in-Some, in-None}

pub line_stop-stop-requires : goal.line_stop-stop-requires
line_stop-stop-requires c = end_in_text c.args.part.now c.requires.begins

pub loop-reach-init : goal.loop-reach-init
loop-reach-init c =
    let p = c.args.part.now in
    let chain = chain_in (item_in c.args.item) in
    let none : 0 ≡ p.start - p.start = omega arith in
    record {
      reaches =
          subst (Reaches p chain chain p.start) none (reach_none p chain c.requires.begins c.requires.closable);
      low = omega arith;
      front = front_none p c.requires.begins;
    }

pub go_item-goes_on-requires-clause-reached : goal.go_item-goes_on-requires-clause-reached
go_item-goes_on-requires-clause-reached c = (chain_in (item_in c.args.item), c.loop-reach.invariant.reaches)

pub go_plain-goes_on-requires-clause-reached : goal.go_plain-goes_on-requires-clause-reached
go_plain-goes_on-requires-clause-reached c = (chain_in (item_in c.args.item), c.loop-reach.invariant.reaches)

-- where a turn leads, in an item and in plain text
turned : (c : Else-not-goes_on) → Advances c.args.part.now (chain_in (item_in c.loop-reach.item)) (reach_of c.loop-reach.reach) (chain_in (item_in c.match-item.item)) (reach_of c.match-item.reach)
turned c =
    let p = c.args.part.now in
    let from = chain_in (item_in c.loop-reach.item) in
    elim c.match-item.branch [
      | in-Some w ↦
          subst (λ r. Advances p from (reach_of c.loop-reach.reach) (chain_in (item_in c.match-item.item)) (reach_of r)) (sym w.reach-is)
          (subst (λ i. Advances p from (reach_of c.loop-reach.reach) (chain_in (item_in i)) (reach_of w.go_item-goes_on.new.reach)) (sym w.item-is)
          (w.go_item-goes_on.ensures.advances (sym w.goes_on-is ∙ c.if-not-goes_on.false)))
      | in-None w ↦
          subst (λ r. Advances p from (reach_of c.loop-reach.reach) (chain_in (item_in c.match-item.item)) (reach_of r)) (sym w.reach-is)
          (subst (λ i. Advances p from (reach_of c.loop-reach.reach) (chain_in (item_in i)) (reach_of w.go_plain-goes_on.new.reach)) (sym w.item-is)
          (w.go_plain-goes_on.ensures.advances (sym w.goes_on-is ∙ c.if-not-goes_on.false)))
    ]

pub loop-reach-preserved : goal.loop-reach-preserved
loop-reach-preserved c = record {
  reaches = (turned c).goes_on (chain_in (item_in c.args.item)) c.loop-reach.invariant.reaches;
  low = elim c.match-item.branch [
    | in-Some w ↦ subst (λ (r : LineReach). r.base ≤ r.at) (sym w.reach-is) w.go_item-goes_on.ensures.low
    | in-None w ↦ subst (λ (r : LineReach). r.base ≤ r.at) (sym w.reach-is) w.go_plain-goes_on.ensures.low
  ];
  front = elim c.match-item.branch [
    | in-Some w ↦ subst (IsFront c.args.part.now) (sym w.front-is) c.loop-reach.invariant.front
    | in-None w ↦ subst (IsFront c.args.part.now) (sym w.front-is) w.go_plain-goes_on.ensures.front
  ];
}

-- what is left of the line becomes less
nearer : (end at next : ℕ) → at < end → at < next → end - next < end - at
nearer end at next inside on = omega arith

pub loop-reach-smaller : goal.loop-reach-smaller
loop-reach-smaller c = nearer c.args.part.now.end c.loop-reach.reach.at c.match-item.reach.at c.loop-reach-test.true (turned c).on

pub line_read-requires-clause-reached : goal.line_read-requires-clause-reached
line_read-requires-clause-reached c = (chain_in (item_in c.args.item), c.loop-reach.invariant.reaches)

pub line_read-requires-clause-stop : goal.line_read-requires-clause-stop
line_read-requires-clause-stop c =
    let p = c.args.part.now in
    end_is (text_of p) p.start p.end c.line_stop-stop.result c.requires.begins.part.high c.requires.begins.line c.line_stop-stop.ensures.more c.line_stop-stop.ensures.last

pub returns : goal.returns
returns c =
    let kind = ap kind_in (innermost_in (item_in c.args.item)) ∙ kind_of_item c.args.item in
    c.line_read.ensures (chain_in (item_in c.args.item)) kind c.loop-reach.invariant.reaches
