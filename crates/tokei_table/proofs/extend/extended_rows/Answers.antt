use Rattle.std.proofs.Common.{map, arith}
use Rattle.std.proofs.lemmas.Grind.{common_steps}
use Rattle.tokei_table_row.specs.RowOf.{row_of}
use Rattle.tokei_table_rules.specs.Extended.{addition_of}
use Rattle.tokei_table.proofs.ExtendedTables.{one_more}
use Rattle.tokei_table.proofs.extend.extended_rows.Goals as goal

pub loop-place-init : goal.loop-place-init
loop-place-init c = grind (arith, common_steps)

pub loop-place-preserved : goal.loop-place-preserved
loop-place-preserved c =
    one_more (map addition_of c.args.additions.now) row_of c.loop-place.out.items c.args.rows.now c.loop-place.place
    c.index-rows-place.result c.in_ok-extended_row.field-0 c.loop-place-test.true c.index-rows-place.is _ _ _ _
    c.in_ok-extended_row.ensures.row c.in_ok-extended_row.ensures.known c.in_ok-push.ensures.items c.loop-place.invariant

pub returns : goal.returns
returns c = grind (arith, common_steps)
