use Rattle.std.proofs.Common.{◌≡◌, true, string_bytes, sym, ◌∙◌, arith}
use Rattle.std.proofs.lemmas.Grind.{common_steps}
use Rattle.tokei_table_row.specs.RowOf.{row_of}
use Rattle.tokei_table_rules.specs.RowNames.{is_total}
use Rattle.tokei_table_json.proofs.Flaws.{row_told, tells_total}
use Rattle.tokei_table_json.proofs.flaw.total_flaw.Goals as goal

pub returns-then-is_total-clause-tells : goal.returns-then-is_total-clause-tells
returns-then-is_total-clause-tells c =
    tells_total _ c.in_ok-flaw.field-0 c.in_ok-flaw.ensures.cause
    (row_told row_of (λ r. (r.key ≡ string_bytes c.in_ok-flaw.field-0.language) × (is_total r ≡ true)) c.args.rows.now
    c.loop-row.row-index c.row-item.result c.loop-row-test.true c.row-item.is
    (sym (c.in_ok-flaw.ensures.language ∙ c.as_str.ensures.value), sym c.if-is_total.ensures))

pub loop-row-preserved : goal.loop-row-preserved
loop-row-preserved c = grind (arith, common_steps)

pub returns-then-is_total-clause-found : goal.returns-then-is_total-clause-found
returns-then-is_total-clause-found c = grind (arith, common_steps)
