use Rattle.tokei_table.proofs.ExtendedTables.{extended_well_formed}
use Rattle.tokei_table.proofs.table_laws.extended_tables_are_well_formed.Goals as goal

pub returns : goal.returns
returns c = λ rows additions w. extended_well_formed additions rows w
