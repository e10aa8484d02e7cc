-- The list is that of the rows that were read.
use Rattle.std.proofs.Common.{refl}
use Rattle.tokei_program.proofs.Leaving.{on_err}
use Rattle.tokei_program.proofs.entry.write_list.Goals as goal

pub returns-in-Ok-clause-told : goal.returns-in-Ok-clause-told
returns-in-Ok-clause-told g c t told = record {
  rows = c.in_ok-table.table;
  table = c.in_ok-table.ensures.told t told;
  appended = c.in-Ok.ensures.bytes;
}

pub returns-in_err-table-clause-left : goal.returns-in_err-table-clause-left
returns-in_err-table-clause-left g c = on_err c.from_residual.result (λ _. refl)
