use Rattle.tokei_table_json.specs.Escaped.{is_escaped_value}
use Rattle.tokei_table_json.proofs.Left.{ItemsLeft}
use Rattle.tokei_table_json.proofs.escaped.all_escaped.Given as goal

abbrev pub invariant-loop-item : goal.invariant-loop-item
invariant-loop-item l = ItemsLeft is_escaped_value l.item-items l.item-index
