use Rattle.tokei_embedding.proofs.BlankParts.{part_blank}
use Rattle.tokei_embedding.proofs.blank_search.BlankSearch.is_blank_in.Goals as goal

pub returns-clause-value : goal.returns-clause-value
returns-clause-value c = part_blank c.args.self.now c.args.from c.place_from.result c.args.to c.place_from.ensures.first c.place_from.ensures.low c.requires.order c.requires.ends
