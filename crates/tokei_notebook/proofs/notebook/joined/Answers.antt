use Rattle.std.proofs.Common.{◌≡◌, ◌+◌, ◌++◌, drop, append_assoc, sym, ap, ◌∙◌}
use Rattle.json.specs.Value.{items_view, value_view}
use Rattle.tokei_json_tree.specs.Unordered.{unordered_data, unordered_items}
use Rattle.tokei_json_tree.proofs.Steps.{from_item}
use Rattle.tokei_notebook.specs.Cells.{joined, text_of}
use Rattle.tokei_notebook.proofs.notebook.joined.Goals as goal

pub loop-item-preserved : goal.loop-item-preserved
loop-item-preserved c =
    let l = c.loop-item in
    let xs = c.deref-item-items.result.now in
    let x = c.item-item.result in
    let rest = joined (unordered_items (items_view (drop (l.item-index + 1) xs))) in
    let longer : c.extend_from_slice.new.self.items ≡ l.text.items ++ text_of (unordered_data (value_view x)) =
    c.in_ok-extend_from_slice.ensures.items ∙ ap (λ t. l.text.items ++ t) c.text_of.ensures in
    l.invariant
    ∙ ap (λ ys. l.text.items ++ joined (unordered_items (items_view ys))) (from_item xs l.item-index x c.loop-item-test.true c.item-item.is)
    ∙ sym (append_assoc l.text.items (text_of (unordered_data (value_view x))) rest)
    ∙ ap (λ t. t ++ rest) (sym longer)
