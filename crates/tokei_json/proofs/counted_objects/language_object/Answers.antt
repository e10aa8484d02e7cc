use Rattle.std.proofs.Common.{refl, ap, ◌∙◌}
use Rattle.serde_json.specs.Data.{object}
use Rattle.serde_json.proofs.Views.{view-Object}
use Rattle.tokei_json.proofs.Scalars.{view-Bool}
use Rattle.tokei_json.proofs.counted_objects.language_object.Goals as goal

pub returns : goal.returns
returns c =
    view-Object c.put-3.new.map
    ∙ ap object (c.in_ok-put-3.ensures.ok
    ∙ rw (view-Bool c.args.inaccurate, c.in_ok-put-2.ensures.ok, c.in_ok-put.ensures.ok, view-Object c.args.children, c.in_ok-members.ensures) refl)
