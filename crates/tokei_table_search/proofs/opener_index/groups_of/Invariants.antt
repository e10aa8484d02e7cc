use Rattle.std.proofs.Common.{◌≡◌, ◌<◌, ℕ, length, get_or}
use Rattle.tokei_table_row.specs.RowOf.{tokens_of}
use Rattle.tokei_table_search.specs.OpenerGroups.{IsGroupOf}
use Rattle.tokei_table_search.specs.declared.opener_group.OpenerGroup.{OpenerGroup}
use Rattle.tokei_table_search.proofs.opener_index.groups_of.Given as goal

abbrev pub invariant-loop-byte : goal.invariant-loop-byte
invariant-loop-byte l = record {
  as_many : length l.groups.items ≡ l.byte-index;
  each : (k : ℕ) (d : OpenerGroup) → k < l.byte-index
      → IsGroupOf (get_or l.firsts k 0) (tokens_of l.openers) (get_or l.groups.items k d);
}
