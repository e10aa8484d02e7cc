use Rattle.tokei_table_json.specs.Layout.{is_text_pair}
use Rattle.tokei_table_json.proofs.Left.{ItemsLeft}
use Rattle.tokei_table_json.proofs.layout.all_pairs.Given as goal

abbrev pub invariant-loop-item : goal.invariant-loop-item
invariant-loop-item l = ItemsLeft is_text_pair l.item-items l.item-index
