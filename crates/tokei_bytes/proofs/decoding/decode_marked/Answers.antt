use Rattle.std.proofs.Common.{◌∙◌, sym, ap}
use Rattle.std.proofs.lemmas.List.{take_rest}
use Rattle.tokei_bytes.specs.Decoding.{decoded_by, text_of_units}
use Rattle.tokei_bytes.proofs.decoding.decode_marked.Goals as goal

pub returns-in_ok-text_of_units-in-Some-clause-decoded : goal.returns-in_ok-text_of_units-in-Some-clause-decoded
returns-in_ok-text_of_units-in-Some-clause-decoded c =
    c.in_ok-text_of_units-in-Some.ensures
    ∙ ap (text_of_units c.in-Some.order) (take_rest c.args.bytes.now 2)
    ∙ ap (λ order. decoded_by order c.args.bytes.now) (sym c.in-Some.is ∙ c.mark_of.ensures)
