use Rattle.tokei_embedding.proofs.LastPlaces.{last_found, none_found}
use Rattle.tokei_embedding.proofs.last_search.last_between.Goals as goal

pub returns-in-Some : goal.returns-in-Some
returns-in-Some c = last_found (record { text = c.args.text.now; token = c.args.token.now }) c.args.from c.args.to c.in-Some.i c.requires.some c.requires.order c.requires.ends c.in-Some.ensures

pub returns-in-None : goal.returns-in-None
returns-in-None c = none_found (record { text = c.args.text.now; token = c.args.token.now }) c.args.from c.args.to c.requires.some c.requires.order c.requires.ends c.in-None.ensures
