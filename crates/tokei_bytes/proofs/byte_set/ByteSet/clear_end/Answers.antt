use Rattle.std.proofs.Common.{sym, ◌∙◌, subst, slice_index}
use Rattle.tokei_bytes.specs.ByteSets.{AreSlottedAlone}
use Rattle.tokei_bytes.proofs.byte_set.ByteSet.clear_end.Goals as goal

pub returns-then-self : goal.returns-then-self
returns-then-self c =
    let slots = c.self.inside.slots in
    let text = c.args.text.now in
    let are : AreSlottedAlone c.args.self.now slots c.self.inside.is_slotted = subst (λ flags. AreSlottedAlone flags slots c.self.inside.is_slotted) c.self.view_is c.self.invariant.1.1.1 in
    let found = c.first_slotted.ensures in
    record {
      low = found.low;
      high = found.high;
      passed = λ p low high. sym (are c.if-self.true (slice_index text p) (c.type_inv.text p).fits) ∙ found.passed p low high;
      found = λ inside. sym (are c.if-self.true (slice_index text c.first_slotted.result) (c.type_inv.text c.first_slotted.result).fits) ∙ found.found inside;
    }
