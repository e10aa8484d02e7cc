use Rattle.tokei_print.proofs.Parts.{where_made}
use Rattle.tokei_print.proofs.printer.Printer.print_language.Goals as goal

pub returns-clause-bytes : goal.returns-clause-bytes
returns-clause-bytes g c = c.put_made.ensures.bytes _ c.language_row-text.ensures.ok

pub returns-clause-faults : goal.returns-clause-faults
returns-clause-faults g c = c.put_made.ensures.faults

pub returns-clause-fits : goal.returns-clause-fits
returns-clause-fits g c = where_made c.put_made.result c.language_row-text.result _ c.put_made.ensures.made c.language_row-text.ensures.fits

pub returns-clause-overflow : goal.returns-clause-overflow
returns-clause-overflow g c = λ t f. c.language_row-text.ensures.overflow (c.put_made.ensures.overflow t) f

pub returns-clause-layout : goal.returns-clause-layout
returns-clause-layout g c = c.put_made.ensures.layout
