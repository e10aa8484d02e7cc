use Rattle.std.proofs.Common.{◌<◌, length, subst}
use Rattle.tokei_earlier.proofs.Texts.{empty_refused}
use Rattle.tokei_earlier.proofs.document.from_text.Goals as goal

pub returns-in-empty-clause-refused : goal.returns-in-empty-clause-refused
returns-in-empty-clause-refused c =
    λ _. empty_refused c.args.table.now c.args.text.now (subst (λ bs. length bs < 1) c.as_bytes.ensures.value c.in-empty.len_below)
