use Rattle.std.proofs.Common.{◌<◌, length, subst}
use Rattle.tokei_embedding.proofs.LastPlaces.{last_later, last_before, nowhere_later}
use Rattle.tokei_embedding.specs.Remembered.{Sought}
use Rattle.tokei_embedding.proofs.last_search.LastSearch.place_in.Goals as goal
use Rattle.tokei_embedding.proofs.last_search.LastSearch.place_in.Goals.{in-Some, in_default-2, in_default}

pub returns-then-self-from-clause-last : goal.returns-then-self-from-clause-last
returns-then-self-from-clause-last c =
    elim c.match-self.branch [
      | in-Some w ↦
          let known = rw (w.in-Some.is, ← c.if-to-self.true) at c.self.invariant.1 in
          rw (w.result-is, ← c.self.view_is) (last_later _ c.self.inside.from c.args.to w.in-Some.place c.args.from known w.if-from-place.true)
      | in_default-2 w ↦
          let known = rw (w.in-Some.is, ← c.if-to-self.true) at c.self.invariant.1 in
          rw (w.result-is, ← c.self.view_is) (last_before _ c.self.inside.from c.args.to w.in-Some.place c.args.from known w.if-from-place.false)
      | in_default w ↦
          let known = rw (w.in_default.is, ← c.if-to-self.true) at c.self.invariant.1 in
          rw (w.result-is, ← c.self.view_is) (nowhere_later _ c.self.inside.from c.args.to c.args.from known c.if-self-from.true)
    ]

pub returns-then-self-from-clause-some : goal.returns-then-self-from-clause-some
returns-then-self-from-clause-some c = subst (λ (sought : Sought). 0 < length sought.token) c.self.view_is c.self.invariant.0
