-- The rows that are read from members are in the order of their keys.
use Rattle.std.proofs.Common.{◌≡◌, List, [], ◌∷◌, subst, sym, ap, refl}
use Rattle.std.specs.List.Sorted.{IsStrictlySortedBy}
use Rattle.std.specs.Ordering.{nat_cmp}
use Rattle.std.specs.Cmp.Lexicographic.{slice_cmp}
use Rattle.serde_json.specs.Data.{Members, no_members, member}
use Rattle.tokei_table_row.specs.Row.{Row}
use Rattle.tokei_table_json.specs.Rows.{rows_in, row_in}
use Rattle.tokei_table.specs.KeyOrder.{IsInKeyOrder}
use Rattle.tokei_table_rules.specs.RowNames.{keys_of}
use Rattle.tokei_table_json.proofs.MembersOnce.{AreInOrder, member_keys}

row_keys : (ms : Members) → member_keys ms ≡ keys_of (rows_in ms)
unfolding row_in
row_keys no_members = refl
row_keys (member k d ms) = ap (λ ks. k ∷ ks) (row_keys ms)

pub in_key_order : (ms : Members) → AreInOrder ms → IsInKeyOrder (rows_in ms)
in_key_order ms s = subst (λ ks. IsStrictlySortedBy (slice_cmp nat_cmp) ks) (row_keys ms) s

pub order_of_none : (rs : List Row) → rs ≡ [] → IsInKeyOrder rs
unfolding IsStrictlySortedBy
order_of_none rs e = subst IsInKeyOrder (sym e) tt
