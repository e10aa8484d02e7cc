use Rattle.std.proofs.Common.{arith, ap, ◌∙◌, sym, subst, length}
use Rattle.std.proofs.lemmas.Grind.{common_steps}
use Rattle.tokei_table_rules.specs.TextIndex.{first_among, has_text}
use Rattle.tokei_table_rules.proofs.IndexedKinds.{first_of_kind, kind_below}
use Rattle.tokei_table_rules.proofs.TextIndex.{Below}
use Rattle.tokei_table_rules.proofs.lookups.first_indexed.Goals as goal

pub loop-place-init : goal.loop-place-init
loop-place-init c =
    let kind = c.args.kind in
    let text = c.args.text.now in
    let rows = c.args.rows.now in
    ap (first_among (has_text kind text) rows) c.places-places.ensures ∙ first_of_kind kind text rows c.requires

pub row-requires : goal.row-requires
row-requires c =
    subst (Below (length c.args.rows.now)) (sym c.places-places.ensures)
    (kind_below c.args.kind c.args.text.now c.args.rows.now) c.loop-place.place-index c.loop-place-test.true

pub loop-place-preserved : goal.loop-place-preserved
loop-place-preserved c = grind (arith, common_steps)

pub returns-then-has_text : goal.returns-then-has_text
returns-then-has_text c = grind (arith, common_steps)

pub returns : goal.returns
returns c = grind (arith, common_steps)
