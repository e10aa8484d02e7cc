use Rattle.std.proofs.Common.{refl, ◌∙◌}
use Rattle.tokei_json.proofs.counted_objects.count_members.Goals as goal

pub returns : goal.returns
returns c =
    c.in_ok-put-3.ensures.ok
    ∙ rw (c.from-3.ensures, c.in_ok-put-2.ensures.ok, c.from-2.ensures, c.in_ok-put.ensures.ok, c.from.ensures, c.new-members.ensures.empty) refl
