use Rattle.std.proofs.Common.{lit<, ap, ◌∙◌, filter, arith}
use Rattle.std.proofs.lemmas.Grind.{common_steps}
use Rattle.std.proofs.lemmas.Iterator.Consumers.{YieldsList-end}
use Rattle.std.proofs.lemmas.Iterator.Splits.{YieldsList-from_str_split}
use Rattle.tokei_folders.specs.Tree.{is_name, names_of}
use Rattle.tokei_folders.proofs.names.names.Goals as goal

pub returns : goal.returns
unfolding names_of
returns c =
    let t = YieldsList-end (YieldsList-from_str_split 47 c.args.place.now (lit< tt) (cc) (cc) (cc)) c.loop-piece.yielded _ c.loop-piece.yielded_by _ _ c.in-None.is c.next.ensures.steps in
    c.loop-piece.invariant ∙ ap (filter is_name) t.0

pub loop-piece-preserved-in_ok-push : goal.loop-piece-preserved-in_ok-push
loop-piece-preserved-in_ok-push c = grind (arith, common_steps)

pub loop-piece-preserved : goal.loop-piece-preserved
loop-piece-preserved c = grind (arith, common_steps)
