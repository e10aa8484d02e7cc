use Rattle.std.proofs.Common.{sym, subst}
use Rattle.tokei_parts.specs.LineWalk.{chain_in, item_in}
use Rattle.tokei_parts.specs.Modes.{Chain}
use Rattle.tokei_parts.specs.ReadingOf.{row_in, blocks_of}
use Rattle.tokei_parts.specs.Seen.{chain_of}
use Rattle.tokei_parts.specs.Walked.{IsLine}
use Rattle.tokei_count.proofs.UnderWay.{walked_fits, walked_on, walked_past}
use Rattle.tokei_count.proofs.line_reading.read_next.Goals as goal
use Rattle.tokei_count.proofs.line_reading.read_next.Goals.{In_ok-put_item}

-- the line leads from the one stack to the other
line_is : (c : In_ok-put_item)
    → IsLine (row_in c.args.reading.now) (blocks_of c.args.reading.now) c.args.so_far.now.behind_child c.args.reading.now.docs_are_comments
    (chain_of c.args.so_far.now.stack.items) (chain_of c.put_item.new.stack.items) c.args.so_far.now.start c.args.reading.now.text.now
    c.in-Some.line.steps c.in-Some.line.class c.in-Some.line.stop
line_is c =
    let r = c.args.reading.now in
    let p = c.args.so_far.now in
    let line = c.in-Some.line in
    subst (λ (b : Chain). IsLine (row_in r) (blocks_of r) p.behind_child r.docs_are_comments b (chain_of c.put_item.new.stack.items) p.start r.text.now line.steps line.class line.stop)
    (sym c.requires.item)
    (subst (λ (d : Chain). IsLine (row_in r) (blocks_of r) p.behind_child r.docs_are_comments (chain_in (item_in c.args.item)) d p.start r.text.now line.steps line.class line.stop)
    (sym c.in_ok-put_item.ensures) c.in-Some.ensures)

pub returns-in_err-add_line-clause-overflow : goal.returns-in_err-add_line-clause-overflow
returns-in_err-add_line-clause-overflow c =
    let line = c.in-Some.line in
    λ is fits. c.in_err-add_line.ensures.past
    (walked_fits c.args.reading.now c.args.so_far.now c.requires.under_way line.class line.stop line.steps c.put_item.new.stack
    (line_is (goal.at.returns-in_err-add_line-clause-overflow c).In_ok-put_item) fits)

pub returns-clause-under_way : goal.returns-clause-under_way
returns-clause-under_way c =
    let line = c.in-Some.line in
    walked_on c.args.reading.now c.args.so_far.now c.requires.under_way line.class line.stop line.steps c.put_item.new.stack
    (line_is (goal.at.returns-clause-under_way c).In_ok-put_item) c.add_line.new.lines c.args.so_far.now.search c.args.so_far.now.child
    c.in_ok-add_line.ensures.ok c.requires.under_way.searched (λ skipped. c.requires.walked)

pub returns-clause-on : goal.returns-clause-on
returns-clause-on c = λ read.
    let line = c.in-Some.line in
    walked_past c.args.reading.now c.args.so_far.now c.requires.under_way line.class line.stop line.steps c.put_item.new.stack
    (line_is (goal.at.returns-clause-on c).In_ok-put_item)
