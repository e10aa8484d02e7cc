use Rattle.std.proofs.Common.{arith}
use Rattle.tokei_bytes.specs.OneOf.{is_one_of}
use Rattle.tokei_bytes.proofs.Blocks.{in_block, none_before_mark, one_at_mark, none_in_block}
use Rattle.tokei_bytes.proofs.one_of.gap_in_block.Goals as goal

pub returns-then-marked-eq0 : goal.returns-then-marked-eq0
returns-then-marked-eq0 c = record {
  low = omega arith;
  high = omega arith;
  passed = none_in_block (is_one_of c.args.bytes) 32 c.args.text.now c.args.from c.marks-marked.result (omega arith) (omega arith) c.marks-marked.ensures (omega arith);
  found = λ inside. absurd (omega arith);
}

pub returns : goal.returns
returns c = record {
  low = omega arith;
  high = omega (arith, in_block (is_one_of c.args.bytes) 32 c.args.text.now c.args.from c.marks-marked.result (omega arith) (omega arith) c.marks-marked.ensures (omega arith));
  passed = none_before_mark (is_one_of c.args.bytes) 32 c.args.text.now c.args.from c.marks-marked.result (omega arith) (omega arith) c.marks-marked.ensures (omega arith);
  found = λ inside. one_at_mark (is_one_of c.args.bytes) 32 c.args.text.now c.args.from c.marks-marked.result (omega arith) (omega arith) c.marks-marked.ensures (omega arith);
}
