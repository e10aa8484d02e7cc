use Rattle.std.proofs.Common.{◌∷◌, refl, ap, ◌∙◌, arith}
use Rattle.json.specs.Reads.{token_of}
use Rattle.tokei_json_tree.specs.Unordered.{is_in_range, are_items_in_range}
use Rattle.tokei_notebook.specs.Kept.{kept_of_items, kept_of_cells}
use Rattle.tokei_json_tree.proofs.MadeSoFar.{array_made}
use Rattle.tokei_notebook.proofs.kept.read_cells.Goals as goal

pub returns-in_ok-put_cells-in-Some-BeginArray-clause-read : goal.returns-in_ok-put_cells-in-Some-BeginArray-clause-read
returns-in_ok-put_cells-in-Some-BeginArray-clause-read c =
    let made = c.in_ok-put_cells-in-Some-BeginArray in
    array_made c.args.depth c.args.reader.now c.next.new.self c.put_cells.new.reader (omega arith) is_in_range are_items_in_range (λ js. refl)
    kept_of_cells kept_of_items (λ js. refl) c.put_cells.new.made
    (c.in-Some-BeginArray.ensures.value ∙ ap (λ k. token_of k ∷ c.next.new.self) c.in-Some-BeginArray.field-0-is) made.ensures.read
