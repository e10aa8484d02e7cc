use Rattle.std.proofs.Common.{◌∙◌, sym}
use Rattle.tokei_parts.proofs.AlikeRows.{texts_alike}
use Rattle.tokei_parts.proofs.alike.are_same_texts.Goals as goal

pub returns : goal.returns
returns c = λ h. texts_alike c.args.texts.now c.args.others.now (sym c.eq.ensures ∙ h)
