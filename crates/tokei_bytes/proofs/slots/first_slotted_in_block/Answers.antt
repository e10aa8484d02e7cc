use Rattle.std.proofs.Common.{refl}
use Rattle.tokei_bytes.proofs.LowHalves.{none_slotted_here, first_of_slotted}
use Rattle.tokei_bytes.proofs.slots.first_slotted_in_block.Goals as goal

pub returns-then-marked-eq0-clause-passed : goal.returns-then-marked-eq0-clause-passed
returns-then-marked-eq0-clause-passed c =
    let a = c.args in
    let ones = c.slotted_marks-ones in
    let twos = c.slotted_marks-twos in
    none_slotted_here a.slots a.others a.text.now a.from ones.result twos.result _ c.requires ones.ensures twos.ensures refl c.if-marked-eq0.true

pub returns : goal.returns
returns c =
    let a = c.args in
    let ones = c.slotted_marks-ones in
    let twos = c.slotted_marks-twos in
    let it = first_of_slotted a.slots a.others a.text.now a.from ones.result twos.result _ c.requires ones.ensures twos.ensures refl
    ones.type_inv twos.type_inv c.if-marked-eq0.false in
    record { low = it.low; high = it.high; passed = it.passed }
