use Rattle.std.proofs.Common.{◌∙◌}
use Rattle.tokei_walk.proofs.Lasting.{lasts}
use Rattle.tokei_walk.proofs.roots.begin_root.Goals as goal

pub returns-clause-folders : goal.returns-clause-folders
returns-clause-folders g c = lasts c.in_ok-kind.ensures.folders c.begin_known.ensures.folders

pub returns-clause-notes : goal.returns-clause-notes
returns-clause-notes g c = c.begin_known.ensures.notes

pub returns-clause-met : goal.returns-clause-met
returns-clause-met g c = λ t e.
    c.begin_known.ensures.met t (c.kind_of_root.ensures.folders.same ∙ e)
    (c.in_ok-kind.ensures.empty, c.in_ok-kind.ensures.told t e)
