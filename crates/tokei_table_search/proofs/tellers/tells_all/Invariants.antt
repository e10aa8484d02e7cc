use Rattle.std.proofs.Common.{◌≡◌, drop}
use Rattle.std.specs.List.{list_all}
use Rattle.tokei_table_row.specs.RowOf.{tokens_of}
use Rattle.tokei_table_search.specs.Tellers.{tells}
use Rattle.tokei_table_search.proofs.tellers.tells_all.Given as goal

abbrev pub invariant-loop-opener : goal.invariant-loop-opener
invariant-loop-opener l =
    list_all (tells l.tellers.alone l.tellers.firsts l.tellers.seconds) (tokens_of (drop l.opener-index l.openers))
    ≡ list_all (tells l.tellers.alone l.tellers.firsts l.tellers.seconds) (tokens_of l.openers)
