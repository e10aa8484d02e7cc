-- Rows in the byte order of their keys.
use Rattle.std.specs.Prelude.{List}
use Rattle.std.specs.Ordering.{nat_cmp}
use Rattle.std.specs.List.Sorted.{IsStrictlySortedBy}
use Rattle.std.specs.Cmp.Lexicographic.{slice_cmp}
use Rattle.tokei_table_row.specs.Row.{Row}
use Rattle.tokei_table_rules.specs.RowNames.{keys_of}

-- The keys ascend in byte order.
abbrev pub IsInKeyOrder : List Row → Type 0
IsInKeyOrder rs = IsStrictlySortedBy (slice_cmp nat_cmp) (keys_of rs)
