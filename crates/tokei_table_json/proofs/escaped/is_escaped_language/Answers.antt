use Rattle.std.proofs.Common.{◌≡◌, ◌∙◌, ap, sym, subst, codes, rules}
use Rattle.json.proofs.Trees.{view-Object}
use Rattle.json.specs.Json as json
use Rattle.json.specs.Value.{value_view, members_view}
use Rattle.json.specs.declared.value.Value.{the_lemmas}
use Rattle.serde_json.specs.Find.{get}
use Rattle.tokei_json_tree.specs.Ordered.{IsOrdered}
use Rattle.tokei_json_tree.specs.TreeData.{data_of, members_data}
use Rattle.tokei_table_json.specs.Escaped.{is_escaped_language, has_escaped_tokens, has_escaped_finders, has_escaped_traits}
use Rattle.tokei_table_json.specs.Layout.{is_html_kind}
use Rattle.tokei_table_json.specs.MemberEscapes.{keeps_escapes}
use Rattle.tokei_table_json.specs.MemberLayout.{all_members}
use Rattle.tokei_table_json.proofs.Left.{none_found}
use Rattle.tokei_table_json.proofs.MembersOnce.{in_order}
use Rattle.tokei_table_json.proofs.MemberTests.{members_keep}
use Rattle.tokei_table_json.proofs.NumberData.{number_is_escaped}
use Rattle.tokei_table_json.proofs.escaped.is_escaped_language.Goals as goal

pub returns-in-Object : goal.returns-in-Object
returns-in-Object c =
    let ms = members_view c.in-Object.members.items in
    let seen : value_view c.args.value.now ≡ json.object ms = ap value_view c.in-Object.is ∙ view-Object c.in-Object.members in
    none_found c.is_none.ensures c.misescaped_member.ensures
    ∙ ap (λ html. all_members (keeps_escapes html) (members_data ms))
    (c.is_html.ensures ∙ ap (λ j. is_html_kind (get (codes "kind") (data_of j))) seen)
    ∙ members_keep (members_data ms) (in_order ms (subst IsOrdered seen c.requires).0)
    ∙ sym (ap (λ j. is_escaped_language (data_of j)) seen)

pub returns-in_default : goal.returns-in_default
unfolding has_escaped_tokens has_escaped_finders has_escaped_traits
returns-in_default c = search (rules, the_lemmas, number_is_escaped)
