use Rattle.std.proofs.Common.{◌≡◌, ◌<◌, ◌||◌, ℕ, List, ◌∷◌, drop, length}
use Rattle.std.specs.List.{list_any}
use Rattle.tokei_bytes.specs.ByteSets.{is_in}
use Rattle.tokei_table_search.specs.OpenerGroups.{goes_on_behind, is_whole_behind}
use Rattle.tokei_table_row.specs.Bytes.{begins_with_one}
use Rattle.tokei_table_row.specs.RowOf.{tokens_of}
use Rattle.tokei_table_search.proofs.opener_group.OpenerGroup.new.Given as goal

abbrev pub invariant-loop-opener : goal.invariant-loop-opener
invariant-loop-opener l = record {
  seconds_long : length l.group.seconds ≡ 256;
  wholes_long : length l.group.wholes ≡ 256;
  seconds_each : (y : ℕ) → y < 256
      → (is_in l.group.seconds y || list_any (goes_on_behind l.byte y) (tokens_of (drop l.opener-index l.openers)))
      ≡ list_any (goes_on_behind l.byte y) (tokens_of l.openers);
  wholes_each : (y : ℕ) → y < 256
      → (is_in l.group.wholes y || list_any (is_whole_behind l.byte y) (tokens_of (drop l.opener-index l.openers)))
      ≡ list_any (is_whole_behind l.byte y) (tokens_of l.openers);
  own : (t : List ℕ)
      → (begins_with_one (tokens_of l.group.openers.items) (l.byte ∷ t)
      || begins_with_one (tokens_of (drop l.opener-index l.openers)) (l.byte ∷ t))
      ≡ begins_with_one (tokens_of l.openers) (l.byte ∷ t);
}
