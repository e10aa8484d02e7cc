use Rattle.tokei_embedding.proofs.Newlines.{none_at_newline}
use Rattle.tokei_embedding.proofs.laws.newlines_open_nothing.Goals as goal

pub returns : goal.returns
returns c = none_at_newline
