use Rattle.std.proofs.Common.{◌∙◌, ◌++◌, refl, ap}
use Rattle.std.proofs.lemmas.List.{take_all}
use Rattle.tokei_table_row.specs.RowOf.{pairs_of}
use Rattle.tokei_parts.specs.PlainOpenings.{item_openings}
use Rattle.tokei_parts.specs.Spans.{openings_of}
use Rattle.tokei_parts.proofs.OpeningLists.{items_joined, one_more}
use Rattle.tokei_parts.proofs.opening_table.add_pairs.Goals as goal

pub loop-pair-preserved : goal.loop-pair-preserved
loop-pair-preserved c =
    one_more (λ ps. item_openings c.args.kind (pairs_of ps)) (items_joined c.args.kind) c.loop-pair.all.items c.push.new.self.items _ (openings_of c.args.all.now.items)
    c.args.pairs.now c.loop-pair.pair-index c.pair-item.result c.in_ok-push.ensures.items c.loop-pair.invariant refl c.loop-pair-test.true c.pair-item.is

pub returns : goal.returns
returns c =
    c.loop-pair.invariant
    ∙ ap (λ ps. openings_of c.args.all.now.items ++ item_openings c.args.kind (pairs_of ps)) (take_all c.loop-pair.pair-index c.args.pairs.now c.loop-pair-test.false)
