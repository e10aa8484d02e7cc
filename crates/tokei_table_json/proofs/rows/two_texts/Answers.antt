use Rattle.std.proofs.Common.{◌∙◌, ap, sym, arith}
use Rattle.json.specs.Value.{items_view}
use Rattle.tokei_json_tree.specs.TreeData.{items_data}
use Rattle.tokei_table_json.specs.Rows.{two_texts}
use Rattle.tokei_table_json.proofs.NoPairs.{just_two, not_two}
use Rattle.tokei_table_json.proofs.Pairs.{same_pair}
use Rattle.tokei_table_json.proofs.rows.two_texts.Goals as goal

pub returns-in_default : goal.returns-in_default
returns-in_default c =
    same_pair _ _ c.new.ensures.bytes c.new-in_default.ensures.bytes
    ∙ sym (ap (λ xs. two_texts (items_data (items_view xs))) (sym c.as_slice.ensures.value)
    ∙ not_two c.as_slice.result.now (λ e. grind arith))

pub returns-in_ok-text-in-len2-2 : goal.returns-in_ok-text-in-len2-2
returns-in_ok-text-in-len2-2 c =
    let xs = c.as_slice.result.now in
    same_pair _ _ c.in_ok-text-in-len2.ensures c.in_ok-text-in-len2-2.ensures
    ∙ just_two xs c.opener-item.result c.closer-item.result c.in-len2.len_at_least c.in-len2.len_below c.opener-item.is c.closer-item.is
    ∙ ap (λ ys. two_texts (items_data (items_view ys))) c.as_slice.ensures.value
