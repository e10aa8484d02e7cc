use Rattle.std.proofs.Common.{◌∷◌, refl, ap, ◌∙◌, arith}
use Rattle.json.specs.Reads.{token_of}
use Rattle.tokei_json_tree.specs.Unordered.{is_in_range, are_members_in_range}
use Rattle.tokei_notebook.specs.Kept.{kept_in_cell, kept_of_cell}
use Rattle.tokei_json_tree.proofs.MadeSoFar.{object_made}
use Rattle.tokei_notebook.proofs.kept.read_cell.Goals as goal

pub returns-in_ok-put_cell_members-in-Some-BeginObject-clause-read : goal.returns-in_ok-put_cell_members-in-Some-BeginObject-clause-read
returns-in_ok-put_cell_members-in-Some-BeginObject-clause-read c =
    let made = c.in_ok-put_cell_members-in-Some-BeginObject in
    object_made c.args.depth c.args.reader.now c.next.new.self c.put_cell_members.new.reader (omega arith) is_in_range are_members_in_range (λ ms. refl)
    kept_of_cell kept_in_cell (λ ms. refl) c.put_cell_members.new.made
    (c.in-Some-BeginObject.ensures.value ∙ ap (λ k. token_of k ∷ c.next.new.self) c.in-Some-BeginObject.field-0-is) made.ensures.read
