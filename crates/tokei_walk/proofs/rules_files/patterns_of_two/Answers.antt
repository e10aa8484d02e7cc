use Rattle.std.proofs.Common.{◌∙◌}
use Rattle.tokei_walk.proofs.Growing.{grows_on}
use Rattle.tokei_walk.proofs.Lasting.{lasts, answers, refused}
use Rattle.tokei_walk.proofs.Noting.{says_on}
use Rattle.tokei_walk.proofs.rules_files.patterns_of_two.Goals as goal

pub returns-in_err-after-clause-folders : goal.returns-in_err-after-clause-folders
returns-in_err-after-clause-folders g c = refused c.from_residual-in_err-after.ensures.0 (c.patterns_of_name-2.ensures.folders.same ∙ c.patterns_of_name.ensures.folders.same)

pub returns-in_err-after-clause-notes : goal.returns-in_err-after-clause-notes
returns-in_err-after-clause-notes g c = grows_on _ _ _ c.patterns_of_name.ensures.notes c.patterns_of_name-2.ensures.notes

pub returns-clause-folders : goal.returns-clause-folders
returns-clause-folders g c = answers (lasts c.in_ok-before.ensures.folders c.in_ok-after.ensures.folders)

pub returns-clause-notes : goal.returns-clause-notes
returns-clause-notes g c = grows_on _ _ _ c.patterns_of_name.ensures.notes c.patterns_of_name-2.ensures.notes

pub returns-clause-first : goal.returns-clause-first
returns-clause-first g c = λ t e. c.in_ok-before.ensures.told t e

pub returns-clause-second : goal.returns-clause-second
returns-clause-second g c = λ t e. c.in_ok-after.ensures.told t (c.patterns_of_name.ensures.folders.same ∙ e)

pub returns-clause-noted : goal.returns-clause-noted
returns-clause-noted g c = λ t e.
    says_on _ _ _ _ _ (c.in_ok-before.ensures.noted t e) (c.in_ok-after.ensures.noted t (c.patterns_of_name.ensures.folders.same ∙ e))
