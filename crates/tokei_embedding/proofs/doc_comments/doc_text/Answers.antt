use Rattle.std.proofs.Common.{◌<◌, length, arith}
use Rattle.std.proofs.lemmas.Grind.{common_steps}
use Rattle.tokei_embedding.proofs.Lines.{doc_text-step}
use Rattle.tokei_embedding.proofs.doc_comments.doc_text.Goals as goal

pub loop-rest-preserved : goal.loop-rest-preserved
loop-rest-preserved c =
    let some : 0 < length c.loop-rest.rest.now = grind arith in
    doc_text-step c.args.block.now c.loop-rest.said.items c.extend_from_slice.new.self.items c.loop-rest.rest.now c.first_line-line.result.now c.trim_start-solid.result.now c.min.result
    c.loop-rest.invariant some c.first_line-line.ensures.value c.trim_start-solid.ensures c.min.ensures c.in_ok-extend_from_slice.ensures.items

pub slice_bounds-rest-count : goal.slice_bounds-rest-count
slice_bounds-rest-count c = grind (arith, common_steps)

pub slice_bounds-rest-start : goal.slice_bounds-rest-start
slice_bounds-rest-start c = grind (arith, common_steps)

pub returns : goal.returns
returns c = grind (arith, common_steps)

pub loop-rest-smaller : goal.loop-rest-smaller
loop-rest-smaller c = grind (arith, common_steps)
