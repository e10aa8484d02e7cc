use Rattle.tokei_embedding.proofs.BlankParts.{solid_later}
use Rattle.tokei_embedding.proofs.blank_search.BlankSearch.place_from.Goals as goal
use Rattle.tokei_embedding.proofs.blank_search.BlankSearch.place_from.Goals.{then-from-self, else-from-self+else-self-from}

pub returns-clause-first : goal.returns-clause-first
returns-clause-first c =
    elim c.if-from-self.branch [
      | then-from-self w ↦ rw (w.self-inside-is, ← c.self.view_is) w.solid_from-self-inside.ensures.first
      | else-from-self+else-self-from w ↦ rw (w.self-inside-is, ← c.self.view_is) (solid_later _ c.self.inside.from c.self.inside.place c.args.from c.self.invariant w.if-from-self.false)
    ]
