use Rattle.std.proofs.Common.{ℕ, ◌<◌, length}
use Rattle.tokei_table_row.specs.RowOf.{pairs_of}
use Rattle.tokei_table_json.proofs.Next.{PairsSoFar}
use Rattle.tokei_table_json.proofs.token_lists.next_pairs.Given as goal

abbrev pub invariant-loop-alloc : goal.invariant-loop-alloc
invariant-loop-alloc l = (depth : ℕ) → 0 < depth → PairsSoFar depth l.initial.reader l.reader (pairs_of l.room.items)

abbrev pub decreases-loop-alloc : goal.decreases-loop-alloc
decreases-loop-alloc l = length l.reader
