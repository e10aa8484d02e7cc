use Rattle.std.proofs.Common.{◌∙◌, sym, ap, ◌&&◌}
use Rattle.json.specs.Value.{items_view, value_view}
use Rattle.tokei_json_tree.specs.TreeData.{items_data, data_of}
use Rattle.tokei_table_json.specs.Layout.{are_two_texts}
use Rattle.tokei_json_tree.specs.Shapes.{is_text}
use Rattle.tokei_table_json.proofs.NoPairs.{too_few, too_many, both_texts}
use Rattle.tokei_table_json.proofs.layout.are_two_texts.Goals as goal

pub returns-in_default : goal.returns-in_default
returns-in_default c =
    sym (ap (λ xs. are_two_texts (items_data (items_view xs))) (sym c.as_slice.ensures.value)
    ∙ too_few c.as_slice.result.now c.in_default.len_below)

pub returns-in_default-2 : goal.returns-in_default-2
returns-in_default-2 c =
    sym (ap (λ xs. are_two_texts (items_data (items_view xs))) (sym c.as_slice.ensures.value)
    ∙ too_many c.as_slice.result.now c.in_default.len_at_least)

pub returns-then-is_text : goal.returns-then-is_text
returns-then-is_text c =
    let xs = c.as_slice.result.now in
    let second = is_text (data_of (value_view c.second-item.result)) in
    c.is_text-then-is_text.ensures
    ∙ ap (λ b. b && second) (sym c.if-is_text.true ∙ c.is_text.ensures)
    ∙ both_texts xs c.first-item.result c.second-item.result c.in-len2.len_at_least c.in-len2.len_below c.first-item.is c.second-item.is
    ∙ ap (λ ys. are_two_texts (items_data (items_view ys))) c.as_slice.ensures.value

pub returns-else-is_text : goal.returns-else-is_text
returns-else-is_text c =
    let xs = c.as_slice.result.now in
    let second = is_text (data_of (value_view c.second-item.result)) in
    c.if-is_text.false
    ∙ ap (λ b. b && second) (sym c.if-is_text.false ∙ c.is_text.ensures)
    ∙ both_texts xs c.first-item.result c.second-item.result c.in-len2.len_at_least c.in-len2.len_below c.first-item.is c.second-item.is
    ∙ ap (λ ys. are_two_texts (items_data (items_view ys))) c.as_slice.ensures.value
