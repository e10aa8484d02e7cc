use Rattle.std.proofs.Common.{sym, ap, refl}
use Rattle.serde_json.specs.Read.{read}
use Rattle.tokei_json_tree.proofs.Utf8.{data_read, data_none}
use Rattle.tokei_table_json.proofs.reading.text_of.Goals as goal

pub returns-in-Ok : goal.returns-in-Ok
returns-in-Ok c =
    let here = c.in-Ok.ensures.cases in
    data_read c.args.bytes.now (read c.in-Ok.text.now) here.1 (ap read (sym here.0))

pub returns-in-Err : goal.returns-in-Err
returns-in-Err c = (refl, data_none c.args.bytes.now c.in-Err.ensures.cases.0)
