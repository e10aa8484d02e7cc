use Rattle.tokei_embedding.proofs.DocLaws.{doc_reach}
use Rattle.tokei_embedding.proofs.laws.docs_reach.Goals as goal

pub returns : goal.returns
returns c = doc_reach
