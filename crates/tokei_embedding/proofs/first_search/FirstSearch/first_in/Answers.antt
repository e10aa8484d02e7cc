use Rattle.std.proofs.Common.{◌≡◌, ◌<◌, ◌+◌, length, ap, ◌∙◌, arith}
use Rattle.tokei_embedding.proofs.FirstPlaces.{first_is, first_past}
use Rattle.tokei_embedding.specs.Remembered.{Sought}
use Rattle.tokei_embedding.proofs.first_search.FirstSearch.first_in.Goals as goal
use Rattle.tokei_embedding.proofs.first_search.FirstSearch.first_in.Goals.{else-place-to-via-then-place-to+else-self-to, else-place-to-via-else-place-to}

pub returns-then-self-to-clause-value : goal.returns-then-self-to-clause-value
returns-then-self-to-clause-value c =
    let same : length c.self.inside.token.now ≡ length c.args.self.now.token = ap (λ (s : Sought). length s.token) (c.self.view_is ∙ c.place_from-place.ensures.same) in
    first_is c.args.self.now c.args.from c.place_from-place.result c.args.from c.args.to
    c.place_from-place.ensures.first (omega arith) c.place_from-place.ensures.low
    c.if-place-to.true c.requires.ends (omega (arith, c.if-self-to.true, same))

pub returns-clause-value : goal.returns-clause-value
returns-clause-value c =
    let same : length c.self.inside.token.now ≡ length c.args.self.now.token = ap (λ (s : Sought). length s.token) (c.self.view_is ∙ c.place_from-place.ensures.same) in
    let past : c.args.to < c.place_from-place.result + length c.args.self.now.token =
    elim c.else-place-to.branch [
      | else-place-to-via-then-place-to+else-self-to w ↦ omega (arith, w.if-self-to.false, same)
      | else-place-to-via-else-place-to w ↦ omega (arith, w.if-place-to.false, c.place_from-place.ensures.first.some)
    ] in
    first_past c.args.self.now c.args.from c.place_from-place.result c.args.from c.args.to c.place_from-place.ensures.first (omega arith) c.requires.order past
