use Rattle.std.proofs.Common.{◌-◌, ◌∙◌, sym, length, arith}
use Rattle.std.proofs.lemmas.List.{length-take}
use Rattle.tokei_table_row.proofs.Stops.{last_stop-found, last_stop-before}
use Rattle.tokei_table_row.proofs.ext.last_stop.Goals as goal

pub returns-then-is_stop-clause-value : goal.returns-then-is_stop-clause-value
returns-then-is_stop-clause-value c =
    sym (last_stop-found c.loop-rest.rest.now (omega arith) (sym c.is_stop.ensures ∙ c.if-is_stop.true))
    ∙ c.loop-rest.invariant.0

pub loop-rest-preserved : goal.loop-rest-preserved
loop-rest-preserved c = (
  last_stop-before c.loop-rest.rest.now (omega arith) (sym c.is_stop.ensures ∙ c.if-is_stop.false)
      ∙ c.loop-rest.invariant.0,
  omega (
    arith,
    c.loop-rest.invariant.1,
    length-take (length c.loop-rest.rest.now - 1) c.loop-rest.rest.now,
  ),
)
