use Rattle.std.proofs.Common.{length}
use Rattle.json.specs.Json.{value}
use Rattle.tokei_json_tree.specs.Unordered.{are_items_in_range}
use Rattle.tokei_notebook.specs.Kept.{kept_of_items}
use Rattle.tokei_json_tree.proofs.MadeSoFar.{ItemsLeft}
use Rattle.tokei_notebook.proofs.kept.put_cells.Given as goal

abbrev pub invariant-loop-made : goal.invariant-loop-made
invariant-loop-made l = ItemsLeft (value l.depth) are_items_in_range kept_of_items l.initial.reader l.reader l.made.items

abbrev pub decreases-loop-made : goal.decreases-loop-made
decreases-loop-made l = length l.reader
