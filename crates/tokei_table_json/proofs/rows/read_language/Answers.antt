use Rattle.std.proofs.Common.{◌≡◌, ◌∙◌, ap, sym, subst, codes}
use Rattle.std.proofs.lemmas.Result.{on_ok_weaker}
use Rattle.json.proofs.Trees.{view-Object}
use Rattle.json.specs.Json as json
use Rattle.json.specs.Value.{value_view, members_view}
use Rattle.serde_json.specs.Find.{get}
use Rattle.tokei_json_tree.specs.Ordered.{IsOrdered}
use Rattle.tokei_json_tree.specs.TreeData.{data_of, members_data}
use Rattle.tokei_table_row.specs.NewRow.{new_row}
use Rattle.tokei_table_json.specs.Filled.{filled}
use Rattle.tokei_table_json.specs.Layout.{is_html_kind}
use Rattle.tokei_table_json.specs.Rows.{row_in}
use Rattle.tokei_table_json.proofs.FilledRows.{row_of_members}
use Rattle.tokei_table_json.proofs.MembersOnce.{in_order}
use Rattle.tokei_table_json.proofs.Kept.{is_no_object, new_kept}
use Rattle.tokei_table_json.proofs.rows.read_language.Goals as goal

pub returns-in-Object : goal.returns-in-Object
returns-in-Object c =
    let ms = members_view c.in-Object.members.items in
    let key = c.args.key.now in
    let seen : value_view c.args.value.now ≡ json.object ms = ap value_view c.in-Object.is ∙ view-Object c.in-Object.members in
    on_ok_weaker c.read_members.result (λ e. e
    ∙ ap (filled c.is_html.result (members_data ms)) c.requires.new
    ∙ ap (λ html. filled html (members_data ms) (new_row key))
    (c.is_html.ensures ∙ ap (λ j. is_html_kind (get (codes "kind") (data_of j))) seen)
    ∙ row_of_members key (members_data ms) (in_order ms (subst IsOrdered seen c.requires.ordered).0)
    ∙ sym (ap (λ j. row_in key (data_of j)) seen)) c.read_members.ensures

pub read_members-requires : goal.read_members-requires
read_members-requires c =
    let seen : value_view c.args.value.now ≡ json.object (members_view c.in-Object.members.items) = ap value_view c.in-Object.is ∙ view-Object c.in-Object.members in
    (subst IsOrdered seen c.requires.ordered).1

pub returns-in_default : goal.returns-in_default
returns-in_default c =
    let v = c.args.value.now in
    c.requires.new ∙ new_kept c.args.key.now (data_of (value_view v)) (is_no_object v c.in_default.not-Object)
