use Rattle.std.proofs.Common.{refl}
use Rattle.tokei_bytes.proofs.Bits.{none_here, first_here}
use Rattle.tokei_bytes.proofs.pairs.first_pair_in_block.Goals as goal

pub returns-then-marked-eq0-clause-passed : goal.returns-then-marked-eq0-clause-passed
returns-then-marked-eq0-clause-passed c =
    let a = c.args in
    let h = c.marks in
    let f = c.marks_of_one-alone in
    let b = c.marks-2 in
    none_here a.bytes a.first a.seconds a.text.now a.from h.result f.result b.result _ c.requires h.ensures f.ensures b.ensures f.type_inv refl c.if-marked-eq0.true

pub returns : goal.returns
returns c =
    let a = c.args in
    let h = c.marks in
    let f = c.marks_of_one-alone in
    let b = c.marks-2 in
    let it = first_here a.bytes a.first a.seconds a.text.now a.from h.result f.result b.result _ c.requires h.ensures f.ensures b.ensures f.type_inv refl
    h.type_inv c.if-marked-eq0.false in
    record { low = it.low; high = it.high; passed = it.passed; found = λ inside. it.found }
