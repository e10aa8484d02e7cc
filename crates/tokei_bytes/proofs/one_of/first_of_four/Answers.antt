use Rattle.std.proofs.Common.{arith}
use Rattle.tokei_bytes.specs.OneOf.{is_one_of}
use Rattle.tokei_bytes.proofs.Blocks.{goes_on, finds}
use Rattle.tokei_bytes.proofs.one_of.first_of_four.Goals as goal

pub returns-then-marked-ne0 : goal.returns-then-marked-ne0
returns-then-marked-ne0 c =
    finds (is_one_of c.args.bytes) c.args.text.now c.args.from c.loop-at.at c.marks-marked.result (omega (arith, c.if-text-at-lt-BLOCK.false, c.loop-at-test.true, c.requires.within))
    c.marks-marked.ensures c.loop-at.invariant.1 c.args.to c.min.result (omega (arith, c.if-marked-ne0.true)) c.loop-at.invariant.0 c.loop-at-test.true
    (omega (arith, c.min.ensures)) (omega (arith, c.min.ensures)) (λ h. omega (arith, c.min.ensures, h))

pub loop-at-preserved : goal.loop-at-preserved
loop-at-preserved c = (
  omega (arith, c.loop-at.invariant.0),
  goes_on (is_one_of c.args.bytes) c.args.text.now c.args.from c.loop-at.at c.marks-marked.result (omega (arith, c.if-text-at-lt-BLOCK.false, c.loop-at-test.true, c.requires.within))
      c.marks-marked.ensures c.loop-at.invariant.1 (omega (arith, c.if-marked-ne0.false)),
)
