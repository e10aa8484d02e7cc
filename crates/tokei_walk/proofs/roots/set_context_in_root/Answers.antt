use Rattle.std.proofs.Common.{◌∙◌}
use Rattle.tokei_walk.proofs.RootSteps.{level_added}
use Rattle.tokei_walk.proofs.Growing.{grows_on}
use Rattle.tokei_walk.proofs.Lasting.{lasts, on_ok_by}
use Rattle.tokei_walk.proofs.Noting.{says_on}
use Rattle.tokei_walk.proofs.roots.set_context_in_root.Goals as goal

pub returns-clause-told : goal.returns-clause-told
returns-clause-told g c = λ t e.
    on_ok_by c.read_sought.result
    (λ q. level_added c.set_root_context.new.context _ c.read_sought.new.levels _ (c.in_ok-set_root_context.ensures.told t e) q)
    (c.read_sought.ensures.told t (c.set_root_context.ensures.folders.same ∙ e))

pub returns-clause-notes : goal.returns-clause-notes
returns-clause-notes g c = grows_on _ _ _ c.set_root_context.ensures.notes c.read_sought.ensures.notes

pub returns-clause-folders : goal.returns-clause-folders
returns-clause-folders g c = lasts c.in_ok-set_root_context.ensures.folders c.read_sought.ensures.folders

pub returns-clause-noted : goal.returns-clause-noted
returns-clause-noted g c = λ t e.
    on_ok_by c.read_sought.result (λ said. says_on _ _ _ _ _ (c.in_ok-set_root_context.ensures.noted t e) said)
    (c.read_sought.ensures.noted t (c.set_root_context.ensures.folders.same ∙ e))
