use Rattle.std.proofs.Common.{◌-◌, ◌∙◌, ap, sym, take, drop, arith, length, length-take}
use Rattle.std.proofs.lemmas.List.{take_rest}
use Rattle.tokei_embedding.proofs.FenceBlocks.{no_fence, fence_here}
use Rattle.tokei_embedding.proofs.Places.{part_from}
use Rattle.tokei_embedding.specs.Fences.{fence_from}
use Rattle.tokei_embedding.specs.Searches.{is_at}
use Rattle.tokei_embedding.specs.Seen.{fence_seen}
use Rattle.tokei_embedding.proofs.BlockLaws.{opening_fits}
use Rattle.tokei_embedding.proofs.fences.fence_at.Goals as goal

pub returns-then-not-opens_fence : goal.returns-then-not-opens_fence
returns-then-not-opens_fence c =
    let a = c.args in
    no_fence (take (a.to - a.from) (drop a.from a.text.now)) (drop a.place a.text.now) (take (a.to - a.place) (drop a.place a.text.now)) (a.place - a.from)
    (part_from a.text.now a.from a.place a.to c.requires.order (omega arith)) (sym c.opens_fence.ensures ∙ c.if-not-opens_fence.true)

pub returns : goal.returns
returns c =
    let a = c.args in
    let here = take (a.to - a.place) (drop a.place a.text.now) in
    let n = c.info_len.result in
    fence_here (take (a.to - a.from) (drop a.from a.text.now)) (drop a.place a.text.now) here (a.place - a.from) n (fence_seen c.fence_from.result)
    (part_from a.text.now a.from a.place a.to c.requires.order (omega arith))
    (ap (is_at (a.place - a.from)) (sym c.first_fence.ensures.value) ∙ sym c.is_at.ensures ∙ c.if-not-is_at.false)
    c.info_len.ensures
    (c.fence_from.ensures ∙ ap (fence_from n) (take_rest a.text.now a.place))

pub info_len-requires : goal.info_len-requires
info_len-requires c =
    let a = c.args in
    omega (arith, opening_fits (take (a.to - a.place) (drop a.place a.text.now)) (sym c.if-not-opens_fence.ensures))

pub fence_from-requires : goal.fence_from-requires
fence_from-requires c =
    let a = c.args in
    let here = take (a.to - a.place) (drop a.place a.text.now) in
    let rest = drop a.place a.text.now in
    omega (arith, opening_fits here (sym c.if-not-opens_fence.ensures), c.info_len.ensures, length-take (a.to - a.place) rest, ap length (take_rest a.text.now a.place))
