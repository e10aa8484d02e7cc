use Rattle.std.proofs.Common.{inl}
use Rattle.tokei_bytes.proofs.LowHalves.{only_put}
use Rattle.tokei_bytes.proofs.slots.put_slot.Goals as goal

pub returns-then-slots-half-clause-only : goal.returns-then-slots-half-clause-only
returns-then-slots-half-clause-only c = λ x h. inl h

pub returns-then-slots-half-2-clause-only : goal.returns-then-slots-half-2-clause-only
returns-then-slots-half-2-clause-only c = λ x h. inl h

pub returns-clause-only : goal.returns-clause-only
returns-clause-only c = λ x. only_put c.args.slots.now c.args.byte x c.told-slots
