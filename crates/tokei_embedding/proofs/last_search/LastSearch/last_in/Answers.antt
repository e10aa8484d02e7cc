use Rattle.tokei_embedding.proofs.LastPlaces.{last_is, last_none}
use Rattle.tokei_embedding.proofs.last_search.LastSearch.last_in.Goals as goal

pub returns-in-Some-clause-value : goal.returns-in-Some-clause-value
returns-in-Some-clause-value c = last_is c.args.self.now c.args.from c.args.to c.in-Some.place c.in-Some.ensures.some c.requires.order c.requires.ends c.in-Some.ensures.last

pub returns-in-None-clause-value : goal.returns-in-None-clause-value
returns-in-None-clause-value c = last_none c.args.self.now c.args.from c.args.to c.in-None.ensures.some c.requires.order c.in-None.ensures.last
