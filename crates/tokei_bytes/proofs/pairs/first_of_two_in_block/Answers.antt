use Rattle.std.proofs.Common.{refl}
use Rattle.tokei_bytes.proofs.Bits.{none_of_two, first_of_two}
use Rattle.tokei_bytes.proofs.pairs.first_of_two_in_block.Goals as goal

pub returns-then-marked-eq0-clause-passed : goal.returns-then-marked-eq0-clause-passed
returns-then-marked-eq0-clause-passed c =
    let a = c.args in
    let o = c.marks_of_one in
    let f = c.marks_of_one-firsts in
    let b = c.marks_of_one-2 in
    none_of_two a.other a.first a.second a.text.now a.from o.result f.result b.result _ c.requires o.ensures f.ensures b.ensures f.type_inv refl c.if-marked-eq0.true

pub returns : goal.returns
returns c =
    let a = c.args in
    let o = c.marks_of_one in
    let f = c.marks_of_one-firsts in
    let b = c.marks_of_one-2 in
    let it = first_of_two a.other a.first a.second a.text.now a.from o.result f.result b.result _ c.requires o.ensures f.ensures b.ensures f.type_inv refl
    o.type_inv c.if-marked-eq0.false in
    record { low = it.low; high = it.high; passed = it.passed; found = λ inside. it.found }
