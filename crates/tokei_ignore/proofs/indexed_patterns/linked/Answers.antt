use Rattle.std.proofs.Common.{◌≡◌, ◌<◌, length, ap, ◌∙◌, arith, refl}
use Rattle.std.proofs.lemmas.Grind.{common_steps}
use Rattle.tokei_ignore.specs.Index.{slot_of}
use Rattle.tokei_ignore.proofs.Chains.{index_more, read_first}
use Rattle.tokei_ignore.proofs.indexed_patterns.linked.Goals as goal

pub loop-place-preserved : goal.loop-place-preserved
loop-place-preserved c =
    let count = c.slots_for-count.result in
    let own = c.slot_of-slot.result in
    let heads = c.loop-place.heads.items in
    let slots = c.loop-place.invariant.slots in
    let within = c.slot_of-slot.ensures.within in
    let less : own < length heads = omega (arith, slots, within) in
    let is : own ≡ slot_of count c.pattern_key.result = c.slot_of-slot.ensures.value in
    index_more count c.args.list.now c.loop-place.place heads c.loop-place.earlier.items _ _ c.index-list-place.result own c.index.result.now
    c.loop-place.invariant c.loop-place-test.true c.index-list-place.is (is ∙ ap (slot_of count) c.pattern_key.ensures)
    less (read_first heads own c.index.result.now less c.index.ensures) refl c.in_ok-push.ensures.items

pub loop-place-init : goal.loop-place-init
loop-place-init c = grind (arith, common_steps)

pub returns : goal.returns
returns c = grind (arith, common_steps)
