use Rattle.std.proofs.Common.{◌≡◌, ◌++◌, ◌∷◌, [], ◌<◌, length, None, refl, ap, ◌∙◌, subst}
use Rattle.json.specs.Json.{after_end_array, value}
use Rattle.json.specs.Value.{value_view}
use Rattle.tokei_json_tree.specs.Unordered.{is_in_range, are_items_in_range}
use Rattle.tokei_json_tree.specs.Tokens.{IsRead}
use Rattle.tokei_notebook.specs.Kept.{kept_of_cell, kept_of_items}
use Rattle.tokei_json_tree.proofs.MadeSoFar.{item_made, items_in_range, items_made, no_item_made}
use Rattle.tokei_notebook.proofs.kept.put_cells.Goals as goal

pub loop-made-init : goal.loop-made-init
loop-made-init c = no_item_made (value c.args.depth) are_items_in_range kept_of_items c.args.reader.now c.args.made.now.items c.requires

pub loop-made-preserved : goal.loop-made-preserved
loop-made-preserved c =
    let l = c.loop-made in
    let v = c.in_ok-cell.cell in
    let going : (after_end_array l.reader ≡ None) × (c.take_end_array.new.self ≡ l.reader) = c.loop-made-test.ensures in
    let longer : c.push_reserved.new.self.items ≡ l.made.items ++ v ∷ [] =
    c.push_reserved.ensures.items ∙ ap (λ xs. xs ++ v ∷ []) c.reserve.ensures.items in
    item_made l.invariant going.0 (subst (λ ts. length c.read_cell.new.reader < length ts) going.1 c.in_ok-cell.ensures.shorter) is_in_range items_in_range kept_of_cell v
    c.push_reserved.new.self.items longer
    (subst (λ ts. IsRead (value c.args.depth) is_in_range kept_of_cell (value_view v) ts c.read_cell.new.reader) going.1 c.in_ok-cell.ensures.read)
    (λ j js. refl)

pub returns-clause-read : goal.returns-clause-read
returns-clause-read c = items_made c.loop-made.invariant c.take_end_array.new.self c.loop-made-test.ensures refl refl
