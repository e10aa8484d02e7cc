use Rattle.std.proofs.Common.{length}
use Rattle.json.specs.Json.{value}
use Rattle.tokei_json_tree.specs.Emptied.{are_counted, emptied}
use Rattle.tokei_json_tree.proofs.MadeSoFar.{MembersLeft}
use Rattle.tokei_json_tree.proofs.without.put_members.Given as goal

abbrev pub invariant-loop-key : goal.invariant-loop-key
invariant-loop-key l = MembersLeft (value l.depth) (are_counted l.name) (emptied l.name) l.initial.reader l.reader l.made.items

abbrev pub decreases-loop-key : goal.decreases-loop-key
decreases-loop-key l = length l.reader
