use Rattle.std.proofs.Common.{◌≡◌, drop}
use Rattle.std.specs.List.{list_all}
use Rattle.tokei_table_row.specs.Sound.{is_pair}
use Rattle.tokei_table_row.specs.RowOf.{pairs_of}
use Rattle.tokei_table_rules.proofs.tokens.are_pairs.Given as goal

abbrev pub invariant-loop-pair : goal.invariant-loop-pair
invariant-loop-pair l = list_all is_pair (pairs_of (drop l.pair-index l.pairs)) ≡ list_all is_pair (pairs_of l.pairs)
