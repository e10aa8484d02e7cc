use Rattle.std.proofs.Common.{◌≡◌, ◌-◌, true, length, take, drop, sym, ◌∙◌, arith}
use Rattle.tokei_embedding.proofs.BlockLaws.{opening_fits}
use Rattle.tokei_embedding.proofs.FirstPlaces.{part_length}
use Rattle.tokei_embedding.proofs.Places.{first_where-found}
use Rattle.tokei_embedding.specs.Fences.{opens_fence}
use Rattle.tokei_embedding.proofs.fences.first_fence.Goals as goal

pub returns-then-opens_fence-clause-value : goal.returns-then-opens_fence-clause-value
returns-then-opens_fence-clause-value c =
    let a = c.args in
    let part = take (a.to - a.from) (drop a.from a.text.now) in
    let opens : opens_fence part ≡ true = sym c.opens_fence.ensures ∙ c.if-opens_fence.true in
    sym (first_where-found opens_fence part 0 (omega (arith, opening_fits part opens)) opens (λ j l. absurd (omega (arith, l))))

pub returns-then-opens_fence-clause-within : goal.returns-then-opens_fence-clause-within
returns-then-opens_fence-clause-within c =
    let a = c.args in
    let part = take (a.to - a.from) (drop a.from a.text.now) in
    let long : length part ≡ a.to - a.from = part_length a.text.now a.from (a.to - a.from) (omega arith) in
    let opens : opens_fence part ≡ true = sym c.opens_fence.ensures ∙ c.if-opens_fence.true in
    omega (arith, long, opening_fits part opens)
