use Rattle.tokei_embedding.proofs.Marks.{blank_opens}
use Rattle.tokei_embedding.proofs.laws.docs_open_before_blanks.Goals as goal

pub returns : goal.returns
returns c = blank_opens
