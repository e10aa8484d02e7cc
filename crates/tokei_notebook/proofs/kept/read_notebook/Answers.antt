use Rattle.std.proofs.Common.{◌∷◌, refl, ap, ◌∙◌, arith}
use Rattle.json.specs.Reads.{token_of}
use Rattle.tokei_json_tree.specs.Unordered.{is_in_range, are_members_in_range}
use Rattle.tokei_notebook.specs.Kept.{kept_in_notebook, kept_of_notebook}
use Rattle.tokei_json_tree.proofs.MadeSoFar.{object_made}
use Rattle.tokei_notebook.proofs.kept.read_notebook.Goals as goal

pub returns-in_ok-put_notebook_members-in-Some-BeginObject : goal.returns-in_ok-put_notebook_members-in-Some-BeginObject
returns-in_ok-put_notebook_members-in-Some-BeginObject c =
    let made = c.in_ok-put_notebook_members-in-Some-BeginObject in
    object_made c.args.depth c.args.reader.now c.next.new.self c.put_notebook_members.new.reader (omega arith) is_in_range are_members_in_range (λ ms. refl)
    kept_of_notebook kept_in_notebook (λ ms. refl) c.put_notebook_members.new.made
    (c.in-Some-BeginObject.ensures.value ∙ ap (λ k. token_of k ∷ c.next.new.self) c.in-Some-BeginObject.field-0-is) made.ensures
