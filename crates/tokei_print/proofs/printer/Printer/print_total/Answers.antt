use Rattle.tokei_print.proofs.printer.Printer.print_total.Goals as goal

pub returns-clause-bytes : goal.returns-clause-bytes
returns-clause-bytes g c = c.put_made.ensures.bytes _ c.total-text.ensures.ok

pub returns-clause-faults : goal.returns-clause-faults
returns-clause-faults g c = c.put_made.ensures.faults

pub returns-clause-overflow : goal.returns-clause-overflow
returns-clause-overflow g c = λ t f. c.total-text.ensures.overflow (c.put_made.ensures.overflow t) f

pub returns-clause-layout : goal.returns-clause-layout
returns-clause-layout g c = c.put_made.ensures.layout
