use Rattle.std.proofs.Common.{ℕ, ◌+◌, ◌*◌, ◌≤◌, length}
use Rattle.json.specs.Json.{items, members, value}
use Rattle.tokei_json_tree.specs.Numbers.{items_pass, members_pass, number_test}
use Rattle.tokei_json_tree.specs.Tokens.{IsPassed}
use Rattle.tokei_json_tree.proofs.passing.+pass.Given as goal

abbrev pub decreases-pass_value : goal.decreases-pass_value
decreases-pass_value l = 2 * l.depth

abbrev pub decreases-pass_items : goal.decreases-pass_items
decreases-pass_items l = 2 * l.depth + 1

abbrev pub decreases-pass_members : goal.decreases-pass_members
decreases-pass_members l = 2 * l.depth + 1

-- where the items that are left are passed, all are
abbrev pub invariant-pass_items-loop-numbers : goal.invariant-pass_items-loop-numbers
invariant-pass_items-loop-numbers l = record {
  turns : ℕ;
  enough : length l.reader ≤ turns;
  fewer : length l.reader ≤ length l.initial.reader;
  rest : (left : _) → IsPassed (items (value l.depth) turns) (items_pass (number_test l.numbers)) l.reader left
      → IsPassed (items (value l.depth) (length l.initial.reader)) (items_pass (number_test l.numbers)) l.initial.reader left;
}

abbrev pub decreases-pass_items-loop-numbers : goal.decreases-pass_items-loop-numbers
decreases-pass_items-loop-numbers l = length l.reader

abbrev pub invariant-pass_members-loop-reader : goal.invariant-pass_members-loop-reader
invariant-pass_members-loop-reader l = record {
  turns : ℕ;
  enough : length l.reader ≤ turns;
  fewer : length l.reader ≤ length l.initial.reader;
  rest : (left : _) → IsPassed (members (value l.depth) turns) (members_pass (number_test l.numbers)) l.reader left
      → IsPassed (members (value l.depth) (length l.initial.reader)) (members_pass (number_test l.numbers)) l.initial.reader left;
}

abbrev pub decreases-pass_members-loop-reader : goal.decreases-pass_members-loop-reader
decreases-pass_members-loop-reader l = length l.reader
