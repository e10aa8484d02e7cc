use Rattle.std.proofs.Common.{◌≡◌, Bool, true, false, not, map, refl, sym, ap, ◌∙◌, arith}
use Rattle.std.proofs.lemmas.Grind.{common_steps}
use Rattle.tokei_table_row.specs.RowOf.{row_of}
use Rattle.tokei_table_rules.specs.Fallbacks.{has_fallbacks}
use Rattle.tokei_table_rules.proofs.FirstLeft.{by_first}
use Rattle.tokei_table_rules.proofs.well_formed.all_have_fallbacks.Goals as goal

refused : (b : Bool) → not b ≡ true → b ≡ false
refused true h = sym h
refused false h = refl

unrefused : (b : Bool) → not b ≡ false → b ≡ true
unrefused true h = refl
unrefused false h = sym h

pub loop-row-preserved : goal.loop-row-preserved
loop-row-preserved c =
    let rows = map row_of c.args.rows.now in
    let has_all : has_fallbacks rows (row_of c.row-item.result) ≡ true =
    unrefused _ (sym c.missing_key.ensures.found ∙ sym c.is_some.ensures ∙ c.if-is_some.false) in
    by_first row_of (has_fallbacks rows) c.args.rows.now c.loop-row.row-index c.row-item.result c.loop-row-test.true
    c.loop-row.invariant true (ap (λ r. has_fallbacks rows (row_of r)) (sym c.row-item.is) ∙ has_all)

pub returns-then-is_some : goal.returns-then-is_some
returns-then-is_some c =
    let rows = map row_of c.args.rows.now in
    let lacks_one : has_fallbacks rows (row_of c.row-item.result) ≡ false =
    refused _ (sym c.missing_key.ensures.found ∙ sym c.is_some.ensures ∙ c.if-is_some.true) in
    by_first row_of (has_fallbacks rows) c.args.rows.now c.loop-row.row-index c.row-item.result c.loop-row-test.true
    c.loop-row.invariant false (ap (λ r. has_fallbacks rows (row_of r)) (sym c.row-item.is) ∙ lacks_one)

pub returns : goal.returns
returns c = grind (arith, common_steps)
