use Rattle.std.proofs.Common.{◌≡◌, ◌∙◌, ap, sym, subst}
use Rattle.std.proofs.lemmas.Result.{on_ok_weaker}
use Rattle.json.proofs.Trees.{view-Array}
use Rattle.json.specs.Json as json
use Rattle.json.specs.Value.{value_view, items_view}
use Rattle.json.specs.declared.value.Value as value
use Rattle.serde_json.specs.Data.{array, string, boolean}
use Rattle.tokei_json_tree.specs.TreeData.{data_of, items_data}
use Rattle.tokei_table_row.specs.RowOf.{row_of}
use Rattle.tokei_table_json.specs.Filled.{with_member}
use Rattle.tokei_table_json.proofs.MemberKeys.{row_by_key}
use Rattle.tokei_json_tree.specs.Ordered.{IsOrdered}
use Rattle.tokei_table_json.proofs.Kept.{is_other, other_kept}
use Rattle.tokei_table_json.proofs.Views.{view-String, view-Bool}
use Rattle.tokei_table_json.proofs.rows.read_member.Goals as goal

pub returns-in-Array : goal.returns-in-Array
returns-in-Array c =
    let d = array (items_data (items_view c.in-Array.items.items)) in
    let row = row_of c.args.row.now in
    let seen : data_of (value_view c.args.value.now) ≡ d = ap (λ v. data_of (value_view v)) c.in-Array.is ∙ ap data_of (view-Array c.in-Array.items) in
    on_ok_weaker c.read_list.result (λ e.
    row_by_key c.args.html c.args.key.now d c.member_of.result row (row_of c.read_list.new.row) c.member_of.ensures e
    ∙ sym (ap (λ d. with_member c.args.html c.args.key.now d row) seen)) c.read_list.ensures

pub returns-in-String : goal.returns-in-String
returns-in-String c =
    let d = string c.in-String.text.now in
    let row = row_of c.args.row.now in
    let view : value_view (value.String c.in-String.text) ≡ json.string c.in-String.text.now = view-String _ c.in-String.text in
    let seen : data_of (value_view c.args.value.now) ≡ d = ap (λ v. data_of (value_view v)) c.in-String.is ∙ ap data_of view in
    on_ok_weaker c.read_text_member.result (λ e.
    row_by_key c.args.html c.args.key.now d c.member_of-in-String.result row (row_of c.read_text_member.new.row) c.member_of-in-String.ensures e
    ∙ sym (ap (λ d. with_member c.args.html c.args.key.now d row) seen)) c.read_text_member.ensures

pub returns-in-Bool : goal.returns-in-Bool
returns-in-Bool c =
    let d = boolean c.in-Bool.truth in
    let row = row_of c.args.row.now in
    let view : value_view (value.Bool c.in-Bool.truth) ≡ json.boolean c.in-Bool.truth = view-Bool _ c.in-Bool.truth in
    let seen : data_of (value_view c.args.value.now) ≡ d = ap (λ v. data_of (value_view v)) c.in-Bool.is ∙ ap data_of view in
    row_by_key c.args.html c.args.key.now d c.member_of-in-Bool.result row (row_of c.read_truth.new.row) c.member_of-in-Bool.ensures c.read_truth.ensures
    ∙ sym (ap (λ d. with_member c.args.html c.args.key.now d row) seen)

pub read_list-requires : goal.read_list-requires
read_list-requires c =
    let seen : value_view c.args.value.now ≡ json.array (items_view c.in-Array.items.items) = ap value_view c.in-Array.is ∙ view-Array c.in-Array.items in
    subst IsOrdered seen c.requires

pub returns-in_default : goal.returns-in_default
returns-in_default c =
    let v = c.args.value.now in
    other_kept c.args.html c.args.key.now (data_of (value_view v)) (row_of c.args.row.now)
    (is_other v c.in_default.not-Bool c.in_default.not-String c.in_default.not-Array)
