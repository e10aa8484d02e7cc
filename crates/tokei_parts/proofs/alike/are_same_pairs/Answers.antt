use Rattle.std.proofs.Common.{◌∙◌, sym}
use Rattle.tokei_parts.proofs.AlikeRows.{pairs_alike}
use Rattle.tokei_parts.proofs.alike.are_same_pairs.Goals as goal

pub returns : goal.returns
returns c = λ h. pairs_alike c.args.pairs.now c.args.others.now (sym c.eq.ensures ∙ h)
