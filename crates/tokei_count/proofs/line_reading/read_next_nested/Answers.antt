use Rattle.std.proofs.Common.{subst}
use Rattle.std.specs.Prelude.{IfSome}
use Rattle.tokei_parts.specs.ReadingOf.{row_in, blocks_of}
use Rattle.tokei_parts.specs.Seen.{chain_of}
use Rattle.tokei_parts.specs.Walked.{IsLine}
use Rattle.tokei_parts.specs.declared.class.Class.TheVariants.{Comment}
use Rattle.tokei_count.proofs.UnderWay.{walked_fits, walked_on}
use Rattle.tokei_count.proofs.line_reading.read_next_nested.Goals as goal
use Rattle.tokei_count.proofs.line_reading.read_next_nested.Goals.{In-Some}

-- the line leads from the one stack to the other
line_is : (c : In-Some)
    → IsLine (row_in c.args.reading.now) (blocks_of c.args.reading.now) c.args.so_far.now.behind_child c.args.reading.now.docs_are_comments
    (chain_of c.args.so_far.now.stack.items) (chain_of c.read_nested_line.new.stack.items) c.args.so_far.now.start c.args.reading.now.text.now
    c.in-Some.nested.steps Comment c.in-Some.nested.stop
line_is c =
    let r = c.args.reading.now in
    let p = c.args.so_far.now in
    subst (λ read. IfSome read (λ line. IsLine (row_in r) (blocks_of r) p.behind_child r.docs_are_comments (chain_of p.stack.items)
    (chain_of c.read_nested_line.new.stack.items) p.start r.text.now line.steps Comment line.stop)) c.in-Some.is c.in_ok-nested.ensures.reads

pub returns-in_err-add_line-clause-overflow : goal.returns-in_err-add_line-clause-overflow
returns-in_err-add_line-clause-overflow c =
    let line = c.in-Some.nested in
    λ is fits. c.in_err-add_line.ensures.past
    (walked_fits c.args.reading.now c.args.so_far.now c.requires.under_way Comment line.stop line.steps c.read_nested_line.new.stack
    (line_is (goal.at.returns-in_err-add_line-clause-overflow c).In-Some) fits)

pub returns-clause-under_way : goal.returns-clause-under_way
returns-clause-under_way c =
    let line = c.in-Some.nested in
    walked_on c.args.reading.now c.args.so_far.now c.requires.under_way Comment line.stop line.steps c.read_nested_line.new.stack
    (line_is (goal.at.returns-clause-under_way c).In-Some) c.add_line.new.lines c.args.so_far.now.search c.args.so_far.now.child
    c.in_ok-add_line.ensures.ok c.requires.under_way.searched (λ skipped. c.requires.walked)
