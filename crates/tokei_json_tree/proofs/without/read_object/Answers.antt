use Rattle.std.proofs.Common.{◌∷◌, refl, ap, ◌∙◌, arith}
use Rattle.json.specs.Reads.{token_of}
use Rattle.tokei_json_tree.specs.Emptied.{are_counted, emptied, emptied_value, is_counted}
use Rattle.tokei_json_tree.proofs.MadeSoFar.{object_made}
use Rattle.tokei_json_tree.proofs.without.read_object.Goals as goal

pub returns-in_ok-put_members-in-Some-BeginObject : goal.returns-in_ok-put_members-in-Some-BeginObject
returns-in_ok-put_members-in-Some-BeginObject c =
    let made = c.in_ok-put_members-in-Some-BeginObject in
    let name = c.args.name.now in
    object_made c.args.depth c.args.reader.now c.next.new.self c.put_members.new.reader (omega arith) (is_counted name) (are_counted name) (λ ms. refl)
    (emptied_value name) (emptied name) (λ ms. refl) c.put_members.new.made
    (c.in-Some-BeginObject.ensures.value ∙ ap (λ k. token_of k ∷ c.next.new.self) c.in-Some-BeginObject.field-0-is) made.ensures
