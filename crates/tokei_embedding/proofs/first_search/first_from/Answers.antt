use Rattle.tokei_embedding.proofs.FirstPlaces.{first_found, nothing_found}
use Rattle.tokei_embedding.proofs.first_search.first_from.Goals as goal

pub returns-in-Some-clause-first : goal.returns-in-Some-clause-first
returns-in-Some-clause-first c = first_found (record { text = c.args.text.now; token = c.args.token.now }) c.args.from c.in-Some.i c.requires.some c.in-Some.ensures c.requires.inside

pub returns-in-None-clause-first : goal.returns-in-None-clause-first
returns-in-None-clause-first c = nothing_found (record { text = c.args.text.now; token = c.args.token.now }) c.args.from c.requires.some c.in-None.ensures c.requires.inside
