use Rattle.std.proofs.Common.{◌≡◌, ◌+◌, ℕ, List, get_or, ap, sym, ◌∙◌, arith}
use Rattle.std.specs.Int.{bit_at}
use Rattle.tokei_bytes.specs.Slots.{is_slotted}
use Rattle.tokei_count.proofs.LookedAhead.{and_small, unmarked}
use Rattle.tokei_count.proofs.ToldPlaces.{last_place, unset_alone, unset_second}
use Rattle.tokei_count.proofs.line_look.can_open.Goals as goal

pub returns-clause-low : goal.returns-clause-low
returns-clause-low c = and_small _ c.args.marked

pub returns-clause-marked : goal.returns-clause-marked
returns-clause-marked c = λ k h set low.
    let alone = c.marks_in_block-alone in
    let seconds = c.marks_in_block-seconds in
    let text : List ℕ = c.args.text.now in
    let next : c.args.from + (k + 1) ≡ c.args.from + k + 1 = omega arith in (
      unmarked (is_slotted c.args.tellers.now.alone) text c.args.from k c.requires.within (omega (arith, low))
          (ap (λ n. bit_at n k) (sym alone.ensures) ∙ unset_alone alone.result seconds.result c.args.marked k h set),
      ap (λ j. is_slotted c.args.tellers.now.seconds (get_or text j 0)) (sym next)
          ∙ unmarked (is_slotted c.args.tellers.now.seconds) text c.args.from (k + 1) c.requires.within (omega (arith, low))
          (ap (λ n. bit_at n (k + 1)) (sym seconds.ensures) ∙ unset_second alone.result seconds.result c.args.marked k h set),
    )

pub returns-clause-last : goal.returns-clause-last
returns-clause-last c = last_place c.marks_in_block-alone.result c.marks_in_block-seconds.result c.args.marked
