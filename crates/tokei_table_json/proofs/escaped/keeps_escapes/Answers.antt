use Rattle.std.proofs.Common.{◌∙◌, ap}
use Rattle.json.specs.Value.{value_view}
use Rattle.tokei_json_tree.specs.TreeData.{data_of}
use Rattle.tokei_table_json.specs.Members.{member_keeps_escapes}
use Rattle.tokei_table_json.proofs.MemberKeys.{keeps_tells}
use Rattle.tokei_table_json.proofs.escaped.keeps_escapes.Goals as goal

pub returns : goal.returns
returns c =
    let d = data_of (value_view c.args.value.now) in
    c.member_keeps_escapes.ensures
    ∙ ap (λ m. member_keeps_escapes c.args.html m d) c.member_of.ensures
    ∙ keeps_tells c.args.html c.args.key.now d
