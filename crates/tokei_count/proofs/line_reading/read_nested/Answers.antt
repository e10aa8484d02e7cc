use Rattle.std.proofs.Common.{refl, arith}
use Rattle.tokei_count.proofs.Refusals.{answered}
use Rattle.tokei_count.proofs.Skipping.{goes_on, walked_nested}
use Rattle.tokei_count.proofs.UnderWay.{unwalked}
use Rattle.tokei_count.proofs.line_reading.read_nested.Goals as goal

pub read_next_nested-requires-clause-walked : goal.read_next_nested-requires-clause-walked
read_next_nested-requires-clause-walked c =
    walked_nested _ c.loop-so_far.so_far.stack.items _ (omega (arith, c.if-len-gt1.true, c.len.ensures))

pub returns-in_err-read_next_nested-clause-quiet : goal.returns-in_err-read_next_nested-clause-quiet
returns-in_err-read_next_nested-clause-quiet c = λ skipped none.
    absurd (unwalked c.args.reading.now c.loop-so_far.so_far c.loop-so_far.invariant.under_way skipped none
    (walked_nested _ c.loop-so_far.so_far.stack.items _ (omega (arith, c.if-len-gt1.true, c.len.ensures))))

pub loop-so_far-preserved : goal.loop-so_far-preserved
loop-so_far-preserved c =
    let e = c.in_ok-read_next_nested.ensures in record {
      under_way = e.under_way;
      low = goes_on c.args.so_far.now.start c.loop-so_far.so_far.start c.read_next_nested.new.so_far.start c.loop-so_far.invariant.low e.low;
    }

pub returns-then-not-branch : goal.returns-then-not-branch
returns-then-not-branch c =
    let e = c.in_ok-read_next_nested.ensures in record {
      under_way = e.under_way;
      low = goes_on c.args.so_far.now.start c.loop-so_far.so_far.start c.read_next_nested.new.so_far.start c.loop-so_far.invariant.low e.low;
      quiet = λ skipped none. refl;
      overflow = λ is fits. answered _ _ is;
    }
