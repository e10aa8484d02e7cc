use Rattle.std.proofs.Common.{ap, string_bytes, ◌∙◌}
use Rattle.std.proofs.lemmas.List.{drop_all}
use Rattle.json.specs.Value.{value_view, items_view}
use Rattle.tokei_json_tree.specs.TreeData.{data_of, items_data}
use Rattle.tokei_table_json.specs.Rows.{text_of, texts_of}
use Rattle.tokei_table_json.proofs.Left.{items_here}
use Rattle.tokei_table_json.proofs.Made.{none_made, one_made, all_made}
use Rattle.tokei_table_json.proofs.rows.texts.Goals as goal

pub loop-item-init : goal.loop-item-init
loop-item-init c = none_made string_bytes c.in_ok-out.out.items (texts_of (items_data (items_view c.deref-item-items.result.now))) c.in_ok-out.ensures.items

pub loop-item-preserved : goal.loop-item-preserved
loop-item-preserved c =
    let l = c.loop-item in
    let xs = c.deref-item-items.result.now in
    let x = c.item-item.result in
    let d = data_of (value_view x) in
    one_made string_bytes l.out.items c.push.new.self.items c.in_ok-text.field-0 (text_of d) _ _ _ l.invariant
    (ap (λ js. texts_of (items_data js)) (items_here xs l.item-index x c.loop-item-test.true c.item-item.is))
    c.in_ok-push.ensures.items c.in_ok-text.ensures

pub returns : goal.returns
returns c =
    let l = c.loop-item in
    let xs = c.deref-item-items.result.now in
    all_made string_bytes l.out.items _ _ l.invariant
    (ap (λ ys. texts_of (items_data (items_view ys))) (drop_all l.item-index xs c.loop-item-test.false))
    ∙ ap (λ ys. texts_of (items_data (items_view ys))) c.deref-item-items.ensures.value
