use Rattle.tokei_embedding.proofs.FirstPlaces.{first_later}
use Rattle.tokei_embedding.proofs.first_search.FirstSearch.place_from.Goals as goal
use Rattle.tokei_embedding.proofs.first_search.FirstSearch.place_from.Goals.{then-from-self, else-from-self+else-self-from}

pub returns-clause-first : goal.returns-clause-first
returns-clause-first c =
    elim c.if-from-self.branch [
      | then-from-self w ↦ rw (w.self-inside-is, ← c.self.view_is) w.first_from-self-inside.ensures.first
      | else-from-self+else-self-from w ↦ rw (w.self-inside-is, ← c.self.view_is)
          (first_later _ c.self.inside.from c.self.inside.place c.args.from c.self.invariant
          w.if-from-self.false w.if-self-from.false)
    ]
