use Rattle.std.proofs.Common.{◌++◌, ap, sym, ◌∙◌, arith}
use Rattle.std.proofs.lemmas.Grind.{common_steps}
use Rattle.tokei_table_row.specs.RowOf.{row_of}
use Rattle.tokei_table_row.specs.FirstRows.{has_name}
use Rattle.tokei_table_json.proofs.Flaws.{one_shares, none_shares, name_told, tells_name}
use Rattle.tokei_table_json.proofs.flaw.clash.Goals as goal

pub returns-in-Some-clause-found : goal.returns-in-Some-clause-found
returns-in-Some-clause-found c =
    sym (one_shares row_of c.args.rows.now c.args.place c.index-rows-place.result c.requires c.index-rows-place.is
    c.loop-earlier.earlier-index c.earlier-item.result c.loop-earlier-test.true c.earlier-item.is (sym c.in-Some.ensures.found))

pub returns-in-Some-clause-tells : goal.returns-in-Some-clause-tells
returns-in-Some-clause-tells c =
    tells_name _ _ c.in_ok-found.ensures.cause
    (name_told row_of c.args.rows.now c.args.place c.index-rows-place.result c.requires c.index-rows-place.is
    c.loop-earlier.earlier-index c.earlier-item.result c.loop-earlier-test.true c.earlier-item.is _ _ _
    (c.in_ok-found.ensures.language ∙ c.as_str.ensures.value)
    (c.in_ok-push_str.ensures.bytes ∙ ap (λ t. t ++ c.as_str-in-Some.result.now) c.in_ok-found.ensures.other ∙ c.as_str-in-Some.ensures.value)
    (ap (λ w. has_name w (row_of c.earlier-item.result)) c.in_ok-found.ensures.word ∙ c.in-Some.ensures.shared.1)
    (ap (λ w. has_name w (row_of c.index-rows-place.result)) c.in_ok-found.ensures.word ∙ c.in-Some.ensures.shared.0))

pub returns-clause-found : goal.returns-clause-found
returns-clause-found c =
    sym (none_shares row_of c.args.rows.now c.args.place c.index-rows-place.result c.requires c.index-rows-place.is
    c.loop-earlier.earlier-index c.loop-earlier-test.false c.loop-earlier.invariant)

pub loop-earlier-preserved : goal.loop-earlier-preserved
loop-earlier-preserved c = grind (arith, common_steps)
