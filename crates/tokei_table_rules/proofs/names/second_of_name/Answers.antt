use Rattle.std.proofs.Common.{◌||◌, sym, ap, ◌∙◌, arith}
use Rattle.tokei_table_row.specs.FirstRows.{has_name}
use Rattle.tokei_table_row.specs.RowOf.{row_of}
use Rattle.tokei_table_rules.specs.MetNames.{is_met}
use Rattle.tokei_table_rules.proofs.EarlierNames.{shares_if_met, names_twice_here, still_once, met_more}
use Rattle.std.proofs.lemmas.Grind.{common_steps}
use Rattle.tokei_table_rules.proofs.names.second_of_name.Goals as goal

pub returns-then-branch-clause-found : goal.returns-then-branch-clause-found
returns-then-branch-clause-found c =
    sym (names_twice_here row_of c.args.rows.now c.loop-place.place c.index-rows-place.result c.loop-place-test.true c.index-rows-place.is
    (shares_if_met row_of c.args.rows.now c.loop-place.place c.index-rows-place.result c.loop-place-test.true c.index-rows-place.is
    (is_met c.loop-place.names) c.loop-place.invariant.met ∙ sym c.in_ok-add_names.ensures.met ∙ c.if-branch.true))

pub returns-then-branch-clause-shares : goal.returns-then-branch-clause-shares
returns-then-branch-clause-shares c =
    shares_if_met row_of c.args.rows.now c.loop-place.place c.index-rows-place.result c.loop-place-test.true c.index-rows-place.is
    (is_met c.loop-place.names) c.loop-place.invariant.met ∙ sym c.in_ok-add_names.ensures.met ∙ c.if-branch.true

pub loop-place-preserved : goal.loop-place-preserved
loop-place-preserved c = record {
  met = λ q. c.in_ok-add_names.ensures.added q ∙ ap (λ b. b || has_name q (row_of c.index-rows-place.result)) (c.loop-place.invariant.met q)
      ∙ met_more row_of c.args.rows.now c.loop-place.place c.index-rows-place.result c.loop-place-test.true c.index-rows-place.is q;
  once = still_once row_of c.args.rows.now c.loop-place.place c.index-rows-place.result c.loop-place-test.true c.index-rows-place.is
      c.loop-place.invariant.once
      (shares_if_met row_of c.args.rows.now c.loop-place.place c.index-rows-place.result c.loop-place-test.true c.index-rows-place.is
      (is_met c.loop-place.names) c.loop-place.invariant.met ∙ sym c.in_ok-add_names.ensures.met ∙ c.if-branch.false);
}

pub returns-clause-found : goal.returns-clause-found
returns-clause-found c = grind (arith, common_steps)
