use Rattle.std.proofs.Common.{◌≡◌, ◌++◌, drop, map}
use Rattle.tokei_table_row.specs.RowOf.{tokens_of}
use Rattle.tokei_table_search.proofs.opener_index.OpenerIndex.new.Given as goal

abbrev pub invariant-loop-opener : goal.invariant-loop-opener
invariant-loop-opener l =
    tokens_of l.owned.items ++ map (λ o. o.now) (drop l.opener-index l.openers) ≡ map (λ o. o.now) l.openers
