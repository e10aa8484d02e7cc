use Rattle.std.proofs.Common.{◌∙◌, ap, arith}
use Rattle.tokei_folders.specs.Tree.{names_cmp}
use Rattle.tokei_memory.proofs.Placing.{goes_here, stands_here, goes_on, goes_last}
use Rattle.tokei_memory.proofs.told.position.Goals as goal

pub returns-in-Less : goal.returns-in-Less
returns-in-Less c = (
  omega arith,
  λ n e. goes_here c.args.places.now c.loop-i.i c.index-places-i.result n
      c.args.names.now c.loop-i-test.true c.index-places-i.is e
      (c.in-Less.ensures ∙ ap (names_cmp c.args.names.now) c.as_slice.ensures)
      (c.loop-i.invariant n e),
)

pub returns-in-Equal : goal.returns-in-Equal
returns-in-Equal c =
    λ n e. stands_here c.args.places.now c.loop-i.i c.index-places-i.result n c.args.names.now
    c.loop-i-test.true c.index-places-i.is e
    (c.in-Equal.ensures ∙ ap (names_cmp c.args.names.now) c.as_slice.ensures)
    (c.loop-i.invariant n e)

pub loop-i-preserved : goal.loop-i-preserved
loop-i-preserved c =
    λ n e. goes_on c.args.places.now c.loop-i.i c.index-places-i.result n c.args.names.now
    c.loop-i-test.true c.index-places-i.is e
    (c.in-Greater.ensures ∙ ap (names_cmp c.args.names.now) c.as_slice.ensures)
    (c.loop-i.invariant n e)

pub returns : goal.returns
returns c = (omega arith, λ n e. goes_last c.args.places.now c.loop-i.i n c.loop-i-test.false (c.loop-i.invariant n e))
