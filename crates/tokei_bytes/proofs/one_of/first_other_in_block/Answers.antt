use Rattle.std.proofs.Common.{arith}
use Rattle.tokei_bytes.specs.OneOf.{is_none_of}
use Rattle.tokei_bytes.proofs.Blocks.{in_block, none_before_mark, one_at_mark, none_in_block}
use Rattle.tokei_bytes.proofs.one_of.first_other_in_block.Goals as goal

pub returns-then-others-eq0 : goal.returns-then-others-eq0
returns-then-others-eq0 c = record {
  low = omega arith;
  high = omega arith;
  passed = none_in_block (is_none_of c.args.bytes) 16 c.args.text.now c.args.from c.marks_of_others-others.result (omega arith) (omega arith) c.marks_of_others-others.ensures (omega arith);
  found = λ inside. absurd (omega arith);
}

pub returns : goal.returns
returns c = record {
  low = omega arith;
  high = omega (arith, in_block (is_none_of c.args.bytes) 16 c.args.text.now c.args.from c.marks_of_others-others.result (omega arith) (omega arith) c.marks_of_others-others.ensures (omega arith));
  passed = none_before_mark (is_none_of c.args.bytes) 16 c.args.text.now c.args.from c.marks_of_others-others.result (omega arith) (omega arith) c.marks_of_others-others.ensures (omega arith);
  found = λ inside. one_at_mark (is_none_of c.args.bytes) 16 c.args.text.now c.args.from c.marks_of_others-others.result (omega arith) (omega arith) c.marks_of_others-others.ensures (omega arith);
}
