use Rattle.std.proofs.Common.{◌∙◌, ap}
use Rattle.json.specs.Value.{value_view}
use Rattle.tokei_json_tree.specs.TreeData.{data_of}
use Rattle.tokei_table_json.specs.Members.{fits_member}
use Rattle.tokei_table_json.proofs.MemberKeys.{fits_tells}
use Rattle.tokei_table_json.proofs.layout.fits.Goals as goal

pub returns : goal.returns
returns c =
    let d = data_of (value_view c.args.value.now) in
    c.fits_member.ensures
    ∙ ap (λ m. fits_member c.args.html m d) c.member_of.ensures
    ∙ fits_tells c.args.html c.args.key.now d
