use Rattle.std.proofs.Common.{◌+◌, ◌<◌, ◌||◌, ◌==◌, ◌∙◌, length, ◌/◌, sym, ap, subst, arith}
use Rattle.std.proofs.lemmas.List.{length-set}
use Rattle.tokei_bytes.specs.ByteSets.{HasFew, is_in, with_one}
use Rattle.tokei_bytes.proofs.Sets.{few_with_one}
use Rattle.tokei_bytes.specs.BitSets.{flags_of}
use Rattle.tokei_bytes.proofs.BitSets.{bit_put, flags_of-with_bit, length-flags_of, more_than_few, with_bit}
use Rattle.tokei_bytes.proofs.bit_set.BitSet.insert.Goals as goal

pub invariant_of-self : goal.invariant_of-self
invariant_of-self c =
    let words = c.self.inside.words in
    let few = c.self.inside.few in
    let count = c.self.inside.count in
    let byte = c.args.byte in
    let fits = c.ranges.byte.fits in
    let inside : byte < length (flags_of words) = omega (arith, fits, length-flags_of words) in (
      length-set words (byte / 64) _ ∙ c.self.invariant.0,
      subst (λ f. HasFew (flags_of (with_bit words byte)) f (count + 1)) (sym c.with_one-self-inside.ensures)
          (subst (λ flags. HasFew flags (with_one few count byte) (count + 1))
          (sym (flags_of-with_bit words byte c.self.invariant.0 fits))
          (few_with_one (flags_of words) few count byte inside c.self.invariant.1 c.if-self-le-FEW.true)),
    )

pub invariant_of-self-else-self-le-FEW : goal.invariant_of-self-else-self-le-FEW
invariant_of-self-else-self-le-FEW c =
    let words = c.self.inside.words in
    let few = c.self.inside.few in
    let count = c.self.inside.count in
    let byte = c.args.byte in
    let fits = c.ranges.byte.fits in
    let inside : byte < length (flags_of words) = omega (arith, fits, length-flags_of words) in (
      length-set words (byte / 64) _ ∙ c.self.invariant.0,
      subst (λ flags. HasFew flags few count)
          (sym (flags_of-with_bit words byte c.self.invariant.0 fits))
          (more_than_few (flags_of words) few count byte inside c.self.invariant.1 (omega (arith, c.if-self-le-FEW.false))),
    )

pub returns-then-self-le-FEW-clause-long : goal.returns-then-self-le-FEW-clause-long
returns-then-self-le-FEW-clause-long c =
    let words = c.self.inside.words in
    length-flags_of (with_bit words c.args.byte) ∙ sym (length-flags_of words) ∙ ap length c.self.view_is

pub returns-then-self-le-FEW-clause-each : goal.returns-then-self-le-FEW-clause-each
returns-then-self-le-FEW-clause-each c = λ x.
    bit_put c.self.inside.words c.args.byte x c.self.invariant.0 c.ranges.byte.fits
    ∙ ap (λ flags. is_in flags x || (x == c.args.byte)) c.self.view_is

pub returns-else-self-le-FEW-clause-long : goal.returns-else-self-le-FEW-clause-long
returns-else-self-le-FEW-clause-long c =
    let words = c.self.inside.words in
    length-flags_of (with_bit words c.args.byte) ∙ sym (length-flags_of words) ∙ ap length c.self.view_is

pub returns-else-self-le-FEW-clause-each : goal.returns-else-self-le-FEW-clause-each
returns-else-self-le-FEW-clause-each c = λ x.
    bit_put c.self.inside.words c.args.byte x c.self.invariant.0 c.ranges.byte.fits
    ∙ ap (λ flags. is_in flags x || (x == c.args.byte)) c.self.view_is

pub overflow_add-self : goal.overflow_add-self
overflow_add-self c = omega arith

pub overflow_shl-self : goal.overflow_shl-self
overflow_shl-self c = omega arith

pub bounds-self-inside-byte : goal.bounds-self-inside-byte
bounds-self-inside-byte c = omega arith

pub bounds-self-inside-byte-2 : goal.bounds-self-inside-byte-2
bounds-self-inside-byte-2 c = omega arith
