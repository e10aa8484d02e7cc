use Rattle.std.proofs.Common.{length}
use Rattle.tokei_table_search.proofs.opener_index.+first_of.Given as goal

abbrev pub decreases-first_of : goal.decreases-first_of
decreases-first_of l = length l.bytes.now
