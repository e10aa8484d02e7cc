use Rattle.std.proofs.Common.{arith}
use Rattle.tokei_bytes.proofs.pairs.pair_between.Goals as goal

pub returns-then-place-at-clause-inside : goal.returns-then-place-at-clause-inside
returns-then-place-at-clause-inside c = λ after. omega arith

pub returns-else-text-at-gt-BLOCK-clause-inside : goal.returns-else-text-at-gt-BLOCK-clause-inside
returns-else-text-at-gt-BLOCK-clause-inside c = λ after. omega arith

pub returns-after-loop-at-clause-inside : goal.returns-after-loop-at-clause-inside
returns-after-loop-at-clause-inside c = λ after. omega arith

pub first_pair_in_block-place-requires : goal.first_pair_in_block-place-requires
first_pair_in_block-place-requires c = omega arith
