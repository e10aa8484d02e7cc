use Rattle.tokei_count.proofs.LineWeight.{lines-weight}
use Rattle.tokei_count.proofs.laws.lines_within_weight.Goals as goal

pub returns : goal.returns
returns c = lines-weight
