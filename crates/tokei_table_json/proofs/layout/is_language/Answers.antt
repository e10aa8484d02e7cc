use Rattle.std.proofs.Common.{◌≡◌, ◌∙◌, ap, sym, subst, codes}
use Rattle.json.proofs.Trees.{view-Object}
use Rattle.json.specs.Json as json
use Rattle.json.specs.Value.{value_view, members_view}
use Rattle.serde_json.specs.Find.{get}
use Rattle.tokei_json_tree.specs.Ordered.{IsOrdered}
use Rattle.tokei_json_tree.specs.TreeData.{data_of, members_data}
use Rattle.tokei_table_json.specs.Layout.{is_html_kind, is_language}
use Rattle.tokei_table_json.specs.MemberLayout.{all_members, fits}
use Rattle.tokei_table_json.proofs.Left.{none_found}
use Rattle.tokei_table_json.proofs.MembersOnce.{in_order}
use Rattle.tokei_table_json.proofs.MemberTests.{members_fit}
use Rattle.tokei_table_json.proofs.layout.is_language.Goals as goal

pub returns-in-Object : goal.returns-in-Object
returns-in-Object c =
    let ms = members_view c.in-Object.members.items in
    let seen : value_view c.args.value.now ≡ json.object ms = ap value_view c.in-Object.is ∙ view-Object c.in-Object.members in
    none_found c.is_none.ensures c.unfit_member.ensures
    ∙ ap (λ html. all_members (fits html) (members_data ms))
    (c.is_html.ensures ∙ ap (λ j. is_html_kind (get (codes "kind") (data_of j))) seen)
    ∙ members_fit (members_data ms) (in_order ms (subst IsOrdered seen c.requires).0)
    ∙ sym (ap (λ j. is_language (data_of j)) seen)
