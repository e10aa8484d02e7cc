use Rattle.std.proofs.Common.{◌+◌, ◌<◌, ◌||◌, ◌==◌, ◌∙◌, true, length, slice_set, sym, ap, subst, true≢false, arith}
use Rattle.std.proofs.lemmas.List.{length-set}
use Rattle.tokei_bytes.specs.ByteSets.{HasFew, is_in}
use Rattle.tokei_bytes.proofs.Sets.{IsPut, few_past, few_with_one, put_in, stay_alone, stay_slotted}
use Rattle.tokei_bytes.proofs.byte_set.ByteSet.insert.Goals as goal
use Rattle.tokei_bytes.proofs.byte_set.ByteSet.insert.Goals.{then-self, else-self}

pub invariant_of-self : goal.invariant_of-self
invariant_of-self c =
    let flags = c.self.inside.flags in
    let few = c.self.inside.few in
    let count = c.self.inside.count in
    let byte = c.args.byte in
    let inside : byte < length flags = omega (arith, c.self.invariant.0, c.ranges.byte.fits) in
    let slotted = c.self.invariant.1.1 in
    let put = c.put_slot-alone.ensures in
    let is : IsPut c.self.inside.slots _ c.put_slot-alone.result byte = record { stays = put.stays; put = put.put; only = put.only; kept = put.kept } in
    let beside = c.put_beside-self-inside.ensures in (
      length-set flags byte true ∙ c.self.invariant.0,
      (
        subst (λ f. HasFew (slice_set flags byte true) f (count + 1)) (sym c.with_one-self-inside.ensures)
            (few_with_one flags few count byte inside c.self.invariant.1.0 c.if-self-le-FEW.true),
        (
          stay_slotted flags _ _ _ _ _ _ _ byte inside slotted.0 is beside.before beside.stays beside.put beside.only,
          stay_alone flags _ _ _ _ _ byte inside slotted.1 is (elim c.if-self.branch [
            | then-self w ↦ λ so. (w.if-self.true, sym w.self-is ∙ so)
            | else-self w ↦ λ so. absurd (true≢false (sym so ∙ w.self-is ∙ w.if-self.false))
          ]),
        ),
      ),
    )

pub invariant_of-self-else-self-le-FEW : goal.invariant_of-self-else-self-le-FEW
invariant_of-self-else-self-le-FEW c =
    let flags = c.self.inside.flags in
    let byte = c.args.byte in
    let inside : byte < length flags = omega (arith, c.self.invariant.0, c.ranges.byte.fits) in
    let slotted = c.self.invariant.1.1 in
    let put = c.put_slot-alone.ensures in
    let is : IsPut c.self.inside.slots _ c.put_slot-alone.result byte = record { stays = put.stays; put = put.put; only = put.only; kept = put.kept } in
    let beside = c.put_beside-self-inside.ensures in (
      length-set flags byte true ∙ c.self.invariant.0,
      (
        few_past flags c.self.inside.few c.self.inside.count byte inside c.self.invariant.1.0 c.if-self-le-FEW.false,
        (
          stay_slotted flags _ _ _ _ _ _ _ byte inside slotted.0 is beside.before beside.stays beside.put beside.only,
          stay_alone flags _ _ _ _ _ byte inside slotted.1 is (elim c.if-self.branch [
            | then-self w ↦ λ so. (w.if-self.true, sym w.self-is ∙ so)
            | else-self w ↦ λ so. absurd (true≢false (sym so ∙ w.self-is ∙ w.if-self.false))
          ]),
        ),
      ),
    )

pub returns-then-self-le-FEW-clause-long : goal.returns-then-self-le-FEW-clause-long
returns-then-self-le-FEW-clause-long c = length-set c.self.inside.flags c.args.byte true ∙ ap length c.self.view_is

pub returns-then-self-le-FEW-clause-each : goal.returns-then-self-le-FEW-clause-each
returns-then-self-le-FEW-clause-each c = λ x.
    let inside : c.args.byte < length c.self.inside.flags = subst (λ n. c.args.byte < n) (sym c.self.invariant.0) c.ranges.byte.fits in
    put_in c.self.inside.flags c.args.byte x inside ∙ ap (λ flags. is_in flags x || (x == c.args.byte)) c.self.view_is

pub returns-else-self-le-FEW-clause-long : goal.returns-else-self-le-FEW-clause-long
returns-else-self-le-FEW-clause-long c = length-set c.self.inside.flags c.args.byte true ∙ ap length c.self.view_is

pub returns-else-self-le-FEW-clause-each : goal.returns-else-self-le-FEW-clause-each
returns-else-self-le-FEW-clause-each c = λ x.
    let inside : c.args.byte < length c.self.inside.flags = subst (λ n. c.args.byte < n) (sym c.self.invariant.0) c.ranges.byte.fits in
    put_in c.self.inside.flags c.args.byte x inside ∙ ap (λ flags. is_in flags x || (x == c.args.byte)) c.self.view_is

pub overflow_add-self : goal.overflow_add-self
overflow_add-self c = omega arith

pub bounds-self-inside-byte-2 : goal.bounds-self-inside-byte-2
bounds-self-inside-byte-2 c = omega arith
