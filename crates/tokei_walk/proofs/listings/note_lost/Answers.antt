use Rattle.std.proofs.Common.{ap, ◌∙◌}
use Rattle.tokei_folders.specs.Places.{joined}
use Rattle.tokei_walk.proofs.Growing.{grows_by, grows_on, lost_more}
use Rattle.tokei_walk.proofs.listings.note_lost.Goals as goal

pub loop-name-preserved : goal.loop-name-preserved
loop-name-preserved c =
    let place = c.args.place.now in let name = c.name-item.result in
    let whole = c.in_ok-place.ensures.place ∙ ap (joined place) c.as_str.ensures in record {
      made = lost_more _ _ _ place c.args.lost.now c.loop-name.name-index name _ c.loop-name-test.true c.name-item.is whole c.loop-name.invariant.made c.in_ok-push.ensures.ok;
      grows = grows_on _ _ _ c.loop-name.invariant.grows (grows_by _ _ _ c.in_ok-push.ensures.ok);
    }

pub returns-in_err-place-clause-notes : goal.returns-in_err-place-clause-notes
returns-in_err-place-clause-notes c = c.loop-name.invariant.grows
