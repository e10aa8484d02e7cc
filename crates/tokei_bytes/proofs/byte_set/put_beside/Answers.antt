use Rattle.std.proofs.Common.{inl}
use Rattle.tokei_bytes.proofs.byte_set.put_beside.Goals as goal

pub returns-then-put-clause-only : goal.returns-then-put-clause-only
returns-then-put-clause-only c = λ x h. inl h

pub returns-else-have_slots-clause-only : goal.returns-else-have_slots-clause-only
returns-else-have_slots-clause-only c = λ x h. inl h
