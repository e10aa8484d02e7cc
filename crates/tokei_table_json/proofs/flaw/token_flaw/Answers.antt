use Rattle.std.proofs.Common.{◌∙◌, ap, not, sym}
use Rattle.tokei_table_row.specs.RowOf.{row_of}
use Rattle.tokei_table_rules.specs.Tokens.{has_tokens}
use Rattle.tokei_table_json.proofs.Flaws.{token_told, tells_token, row_passes, row_fails, refused, unrefused}
use Rattle.tokei_table_json.proofs.flaw.token_flaw.Goals as goal

pub returns-in-Some-clause-tells : goal.returns-in-Some-clause-tells
returns-in-Some-clause-tells c =
    tells_token _ c.in_ok-flaw.field-0 c.in_ok-flaw.ensures.cause
    (token_told row_of c.args.rows.now c.loop-row.row-index c.row-item.result _ _ c.in-Some.member.now
    c.loop-row-test.true c.row-item.is (c.in_ok-flaw.ensures.language ∙ c.as_str.ensures.value) c.in_ok-flaw.ensures.word
    c.in-Some.ensures.bad)

pub returns-in-Some-clause-found : goal.returns-in-Some-clause-found
returns-in-Some-clause-found c =
    sym (ap not (row_fails row_of has_tokens c.args.rows.now c.loop-row.row-index c.row-item.result
    c.loop-row-test.true c.row-item.is c.loop-row.invariant (refused _ c.in-Some.ensures.found)))

pub loop-row-preserved : goal.loop-row-preserved
loop-row-preserved c =
    row_passes row_of has_tokens c.args.rows.now c.loop-row.row-index c.row-item.result
    c.loop-row-test.true c.row-item.is c.loop-row.invariant (unrefused _ c.in_default.ensures.found)
