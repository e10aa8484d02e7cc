use Rattle.std.proofs.Common.{◌≡◌, drop}
use Rattle.tokei_bytes.specs.OneOf.{is_one_of}
use Rattle.tokei_table_search.proofs.opener_index.OpenerIndex.group_of.Given as goal

abbrev pub invariant-loop-i : goal.invariant-loop-i
invariant-loop-i l =
    (l.first-items ≡ l.self-inside.firsts.items)
    × (is_one_of (drop l.i l.first-items) l.byte ≡ is_one_of l.first-items l.byte)
