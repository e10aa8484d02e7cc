use Rattle.tokei.specs.Runs.{languages_after}
use Rattle.tokei.proofs.counting.tally_of.Goals as goal

pub returns-clause-told : goal.returns-clause-told
unfolding languages_after
returns-clause-told g c = λ t e.
    let told = c.in_ok-notes.ensures.told t e in
    let before = c.in_ok-languages.ensures.ok in
    let paths = c.deref.ensures.value in
    let ignored = c.deref-2.ensures.value in
    cc
