use Rattle.std.proofs.Common.{◌≡◌, ◌+◌, false, get_or, sym, ◌∙◌, arith}
use Rattle.std.proofs.lemmas.Grind.{common_steps}
use Rattle.tokei_bytes.specs.ByteSets.{is_in}
use Rattle.tokei_table_search.proofs.OpenerGroups.{one_more}
use Rattle.tokei_table_search.proofs.opener_group.OpenerGroup.passed.Goals as goal

pub loop-at-preserved : goal.loop-at-preserved
loop-at-preserved c =
    let at = c.loop-at.at in
    let i = c.loop-at.invariant in
    let text = c.args.text.now in
    record {
      low = omega (arith, i.low);
      within = omega (arith, c.loop-at-test.true);
      inside = λ h. c.loop-at-test.true;
      run = one_more (λ k. get_or text k 0 ≡ c.args.byte) c.args.from at i.run c.if-text-at.true;
      none =
          one_more (λ k. is_in c.args.self.now.seconds (get_or text (k + 1) 0) ≡ false) c.args.from at i.none
          (sym c.has.ensures ∙ c.if-not-has.true);
    }

pub returns-else-text-at-clause-inside : goal.returns-else-text-at-clause-inside
returns-else-text-at-clause-inside c = grind (arith, common_steps)

pub overflow_add-at-in-loop-at : goal.overflow_add-at-in-loop-at
overflow_add-at-in-loop-at c = grind (arith, common_steps)

pub returns-else-not-has-clause-within : goal.returns-else-not-has-clause-within
returns-else-not-has-clause-within c = grind (arith, common_steps)

pub returns-else-not-has-clause-inside : goal.returns-else-not-has-clause-inside
returns-else-not-has-clause-inside c = grind (arith, common_steps)

pub returns-else-text-at-clause-run : goal.returns-else-text-at-clause-run
returns-else-text-at-clause-run c = grind (arith, common_steps)

pub returns-else-not-has-clause-run : goal.returns-else-not-has-clause-run
returns-else-not-has-clause-run c = grind (arith, common_steps)
