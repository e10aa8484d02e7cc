use Rattle.tokei_table_row.proofs.TrimParts.{start_parts}
use Rattle.tokei_table_row.proofs.laws.trim_start_drops_the_front.Goals as goal

pub returns : goal.returns
returns c = start_parts
