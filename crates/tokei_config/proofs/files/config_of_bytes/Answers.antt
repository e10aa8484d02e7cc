use Rattle.std.proofs.lemmas.Str.{is_utf8-from_IsUtf8}
use Rattle.tokei_config.proofs.FileTexts.{cause-unread, of_text-unread}
use Rattle.tokei_config.proofs.files.config_of_bytes.Goals as goal

pub returns-in-Ok-clause-config : goal.returns-in-Ok-clause-config
returns-in-Ok-clause-config c =
    let here = c.in-Ok.ensures.cases in
    rw (is_utf8-from_IsUtf8 c.args.bytes.now here.1, ← here.0) c.config_of_text.ensures.config

pub returns-in-Ok-clause-cause : goal.returns-in-Ok-clause-cause
returns-in-Ok-clause-cause c =
    let here = c.in-Ok.ensures.cases in
    rw (is_utf8-from_IsUtf8 c.args.bytes.now here.1, ← here.0) c.config_of_text.ensures.cause

pub returns-in-Err-clause-config : goal.returns-in-Err-clause-config
returns-in-Err-clause-config c = of_text-unread c.args.table.now c.args.bytes.now c.in-Err.ensures.cases.0

pub returns-in-Err-clause-cause : goal.returns-in-Err-clause-cause
returns-in-Err-clause-cause c = cause-unread c.args.table.now c.args.bytes.now c.in-Err.ensures.cases.0
