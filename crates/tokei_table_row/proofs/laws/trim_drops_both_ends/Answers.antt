use Rattle.tokei_table_row.proofs.TrimParts.{both_parts}
use Rattle.tokei_table_row.proofs.laws.trim_drops_both_ends.Goals as goal

pub returns : goal.returns
returns c = both_parts
