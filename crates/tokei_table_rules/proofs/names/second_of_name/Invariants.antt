use Rattle.std.proofs.Common.{◌≡◌, ℕ, List, false, map, take}
use Rattle.std.specs.List.{list_any}
use Rattle.tokei_table_row.specs.FirstRows.{has_name}
use Rattle.tokei_table_row.specs.RowOf.{row_of}
use Rattle.tokei_table_rules.specs.MetNames.{is_met}
use Rattle.tokei_table_rules.specs.RowNames.{names_twice}
use Rattle.tokei_table_rules.proofs.names.second_of_name.Given as goal

abbrev pub invariant-loop-place : goal.invariant-loop-place
invariant-loop-place l = record {
  met : (q : List ℕ) → is_met l.names q ≡ list_any (has_name q) (take l.place (map row_of l.rows));
  once : names_twice (take l.place (map row_of l.rows)) ≡ false;
}
