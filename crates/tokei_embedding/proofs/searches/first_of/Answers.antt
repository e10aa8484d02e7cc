use Rattle.tokei_embedding.proofs.Places.{first_of-is}
use Rattle.tokei_embedding.proofs.searches.first_of.Goals as goal

pub returns-clause-value : goal.returns-clause-value
returns-clause-value c = first_of-is c.args.text.now c.args.token.now c.find.result c.find.ensures c.requires
