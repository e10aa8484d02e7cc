use Rattle.std.proofs.Common.{sym}
use Rattle.tokei_table_rules.proofs.IsUtf8.{utf8_true, utf8_false}
use Rattle.tokei_table_rules.proofs.lookups.is_utf8.Goals as goal

pub returns-in-Ok : goal.returns-in-Ok
returns-in-Ok c = sym (utf8_true c.args.bytes.now c.in-Ok.ensures.cases.1)

pub returns-in-Err : goal.returns-in-Err
returns-in-Err c = sym (utf8_false c.args.bytes.now c.in-Err.ensures.cases.0)
