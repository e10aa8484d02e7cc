use Rattle.std.proofs.Common.{◌∙◌, sym, arith}
use Rattle.std.proofs.lemmas.Grind.{common_steps}
use Rattle.tokei_embedding.proofs.Marks.{mark_over}
use Rattle.tokei_embedding.proofs.mark_search.blanks_end.Goals as goal

pub loop-at-preserved : goal.loop-at-preserved
loop-at-preserved c =
    let i = c.loop-at.invariant in (
      omega (arith, i.0),
      omega (arith, c.loop-at-test.true),
      mark_over c.args.text.now c.args.from c.loop-at.at c.loop-at-test.true
          c.if-text-at-ne10.true (sym c.is_whitespace.ensures ∙ c.if-is_whitespace.true) i.2,
    )

pub returns-else-text-at-ne10-clause-mark : goal.returns-else-text-at-ne10-clause-mark
returns-else-text-at-ne10-clause-mark c = grind (arith, common_steps)

pub returns-else-is_whitespace-clause-mark : goal.returns-else-is_whitespace-clause-mark
returns-else-is_whitespace-clause-mark c = grind (arith, common_steps)

pub returns-after-loop-at-clause-mark : goal.returns-after-loop-at-clause-mark
returns-after-loop-at-clause-mark c = grind (arith, common_steps)

pub loop-at-init : goal.loop-at-init
loop-at-init c = grind (arith, common_steps)

pub overflow_add-at : goal.overflow_add-at
overflow_add-at c = omega arith

pub bounds-text-at-then-text-at-ne10 : goal.bounds-text-at-then-text-at-ne10
bounds-text-at-then-text-at-ne10 c = omega arith
