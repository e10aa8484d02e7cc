use Rattle.std.proofs.Common.{◌∷◌, ap, ◌∙◌}
use Rattle.json.specs.Reads.{token_of}
use Rattle.tokei_table_json.proofs.Next.{truth_next}
use Rattle.tokei_table_json.proofs.token_lists.next_truth.Goals as goal

pub returns-in-Some-Bool : goal.returns-in-Some-Bool
returns-in-Some-Bool c =
    let b = c.in-Some-Bool in
    truth_next b.truth c.args.reader.now c.next.new.self (b.ensures.value ∙ ap (λ t. token_of t ∷ c.next.new.self) b.field-0-is)
