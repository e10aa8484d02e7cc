use Rattle.std.proofs.Common.{length}
use Rattle.json.specs.Json.{value}
use Rattle.tokei_json_tree.specs.Unordered.{are_members_in_range}
use Rattle.tokei_notebook.specs.Kept.{kept_in_notebook}
use Rattle.tokei_json_tree.proofs.MadeSoFar.{MembersLeft}
use Rattle.tokei_notebook.proofs.kept.put_notebook_members.Given as goal

abbrev pub invariant-loop-key : goal.invariant-loop-key
invariant-loop-key l = MembersLeft (value l.depth) are_members_in_range kept_in_notebook l.initial.reader l.reader l.made.items

abbrev pub decreases-loop-key : goal.decreases-loop-key
decreases-loop-key l = length l.reader
