use Rattle.std.proofs.Common.{◌∙◌, sym, true, false}
use Rattle.tokei_memory.proofs.FoldersAbove.{file_begin, file_step, file_end}
use Rattle.tokei_memory.proofs.told.ToldTree.is_below_file.Goals as goal

pub loop-i-init : goal.loop-i-init
loop-i-init c = file_begin _ _

pub returns-then-is_file : goal.returns-then-is_file
returns-then-is_file c = sym (c.loop-i.invariant ∙ file_step c.args.self.now c.args.names.now c.loop-i.i true c.loop-i-test.true c.if-is_file.ensures)

pub loop-i-preserved : goal.loop-i-preserved
loop-i-preserved c = c.loop-i.invariant ∙ file_step c.args.self.now c.args.names.now c.loop-i.i false c.loop-i-test.true c.if-is_file.ensures

pub returns : goal.returns
returns c = sym (c.loop-i.invariant ∙ file_end c.args.self.now c.args.names.now c.loop-i.i c.loop-i-test.false)
