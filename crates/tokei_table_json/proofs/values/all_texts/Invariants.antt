use Rattle.tokei_json_tree.specs.Shapes.{is_text}
use Rattle.tokei_table_json.proofs.Left.{ItemsLeft}
use Rattle.tokei_table_json.proofs.values.all_texts.Given as goal

abbrev pub invariant-loop-item : goal.invariant-loop-item
invariant-loop-item l = ItemsLeft is_text l.item-items l.item-index
