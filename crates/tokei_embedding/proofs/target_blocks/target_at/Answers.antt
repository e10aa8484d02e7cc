use Rattle.std.proofs.Common.{◌-◌, ◌∙◌, sym, take, drop, arith}
use Rattle.std.proofs.lemmas.Grind.{common_steps}
use Rattle.tokei_embedding.proofs.Places.{part_from}
use Rattle.tokei_embedding.proofs.TargetPlaces.{no_target}
use Rattle.tokei_embedding.proofs.target_blocks.target_at.Goals as goal

pub returns-then-not-starts_with : goal.returns-then-not-starts_with
returns-then-not-starts_with c =
    let a = c.args in
    no_target (take (a.to - a.from) (drop a.from a.text.now)) (drop a.place a.text.now) (take (a.to - a.place) (drop a.place a.text.now)) (a.place - a.from)
    (part_from a.text.now a.from a.place a.to c.requires.order (omega arith)) (sym c.starts_with.ensures.value ∙ c.if-not-starts_with.true)

pub returns : goal.returns
returns c = grind (arith, common_steps)

pub target_from-requires : goal.target_from-requires
target_from-requires c = grind (arith, common_steps)

pub slice_bounds-target_from-start : goal.slice_bounds-target_from-start
slice_bounds-target_from-start c = grind (arith, common_steps)

pub slice_bounds-target_from-count : goal.slice_bounds-target_from-count
slice_bounds-target_from-count c = grind (arith, common_steps)
