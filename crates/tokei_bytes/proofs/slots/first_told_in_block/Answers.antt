use Rattle.std.proofs.Common.{refl}
use Rattle.tokei_bytes.proofs.LowHalves.{none_of_told, first_of_told}
use Rattle.tokei_bytes.proofs.slots.first_told_in_block.Goals as goal

pub returns-then-marked-eq0-clause-passed : goal.returns-then-marked-eq0-clause-passed
returns-then-marked-eq0-clause-passed c =
    let a = c.args in
    let o = c.slotted_marks-alones in
    let f = c.slotted_marks-leads in
    let b = c.slotted_marks-follows in
    none_of_told a.alone a.firsts a.seconds a.text.now a.from o.result f.result b.result _ c.requires o.ensures f.ensures b.ensures refl c.if-marked-eq0.true

pub returns : goal.returns
returns c =
    let a = c.args in
    let o = c.slotted_marks-alones in
    let f = c.slotted_marks-leads in
    let b = c.slotted_marks-follows in
    let it = first_of_told a.alone a.firsts a.seconds a.text.now a.from o.result f.result b.result _ c.requires o.ensures f.ensures b.ensures refl
    o.type_inv f.type_inv c.if-marked-eq0.false in
    record { low = it.low; high = it.high; passed = it.passed }
