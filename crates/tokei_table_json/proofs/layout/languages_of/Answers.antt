use Rattle.std.proofs.Common.{◌≡◌, ◌∙◌, ap, sym, subst, Some, option_map}
use Rattle.json.proofs.Trees.{view-Object}
use Rattle.json.specs.Json as json
use Rattle.json.specs.Value.{value_view, members_view}
use Rattle.tokei_json_tree.specs.Ordered.{IsOrdered, AreKeysInOrder, AreMembersOrdered}
use Rattle.tokei_json_tree.specs.TreeData.{data_of, members_data}
use Rattle.tokei_table_json.specs.Layout.{object_in}
use Rattle.tokei_table_json.proofs.layout.languages_of.Goals as goal

pub returns-in-Some-Object-clause-value : goal.returns-in-Some-Object-clause-value
returns-in-Some-Object-clause-value c =
    let found = c.in-Some-Object.field-0 in
    let members = c.in-Some-Object.languages in
    let seen : value_view found.now ≡ json.object (members_view members.items) = ap value_view c.in-Some-Object.field-0-is ∙ view-Object members in
    ap (λ v. Some (members_data (members_view v.items))) c.in-Some-Object.languages-is
    ∙ ap (λ j. object_in (Some (data_of j))) (sym seen)
    ∙ ap object_in (ap (option_map (λ v. data_of (value_view v.now))) (sym c.in-Some-Object.is) ∙ c.member.ensures.value)

pub returns-in-Some-Object-clause-keys : goal.returns-in-Some-Object-clause-keys
returns-in-Some-Object-clause-keys c =
    let members = c.in-Some-Object.languages in
    let seen : value_view c.in-Some-Object.field-0.now ≡ json.object (members_view members.items) =
    ap value_view c.in-Some-Object.field-0-is ∙ view-Object members in
    subst (λ v. AreKeysInOrder (members_view v.items)) (sym c.in-Some-Object.languages-is) (subst IsOrdered seen c.in-Some-Object.ensures.ordered).0

pub returns-in-Some-Object-clause-ordered : goal.returns-in-Some-Object-clause-ordered
returns-in-Some-Object-clause-ordered c =
    let members = c.in-Some-Object.languages in
    let seen : value_view c.in-Some-Object.field-0.now ≡ json.object (members_view members.items) =
    ap value_view c.in-Some-Object.field-0-is ∙ view-Object members in
    subst (λ v. AreMembersOrdered (members_view v.items)) (sym c.in-Some-Object.languages-is) (subst IsOrdered seen c.in-Some-Object.ensures.ordered).1
