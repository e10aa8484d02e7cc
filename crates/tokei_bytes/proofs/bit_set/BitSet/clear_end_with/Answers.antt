use Rattle.std.proofs.Common.{subst, get_or, [], ◌∷◌, slice_index, arith}
use Rattle.tokei_bytes.specs.ByteSets.{HasFew, is_in}
use Rattle.tokei_bytes.proofs.Sets.{outside, three, apart_of_three, met_of_three, neither}
use Rattle.tokei_bytes.proofs.bit_set.BitSet.clear_end_with.Goals as goal

pub returns-then-self-lt-FEW : goal.returns-then-self-lt-FEW
returns-then-self-lt-FEW c =
    let few = c.self.inside.few in
    let has : HasFew c.args.self.now few c.self.inside.count = subst (λ flags. HasFew flags few c.self.inside.count) c.self.view_is c.self.invariant.1 in
    let there = c.first_of_four-then-self-lt-FEW in
    record {
      low = there.ensures.low;
      high = there.ensures.high;
      passed = λ p low high.
          neither _ (is_in c.args.self.now (slice_index c.args.text.now p)) (apart_of_three few c.args.other (slice_index c.args.text.now p) (there.ensures.passed p low high))
          (outside c.args.self.now few
          (get_or few 0 0 ∷ get_or few 1 0 ∷ get_or few 2 0 ∷ c.args.other ∷ [])
          c.self.inside.count (slice_index c.args.text.now p) has
          (omega (arith, c.if-self-lt-FEW.true)) (c.type_inv.text p).fits
          (three few c.self.inside.count c.args.other has.four c.if-self-lt-FEW.true) (there.ensures.passed p low high));
      found =
          λ inside. met_of_three few c.args.other (slice_index c.args.text.now there.result)
          (is_in c.args.self.now (slice_index c.args.text.now there.result)) has.four
          (has.held (omega arith) (slice_index c.args.text.now there.result))
          (there.ensures.found inside);
    }

pub overflow_add-at : goal.overflow_add-at
overflow_add-at c = omega (arith, c.loop-at-test.true)

pub bounds-text-at-then-text-at : goal.bounds-text-at-then-text-at
bounds-text-at-then-text-at c = omega arith
