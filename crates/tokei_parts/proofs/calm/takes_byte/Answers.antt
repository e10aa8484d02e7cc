use Rattle.std.proofs.Common.{◌≡◌, ◌∙◌, ℕ, ◌-◌, true, false, Bool, not, List, length, take, drop, None, refl, ap, sym, arith, length-drop}
use Rattle.std.proofs.lemmas.List.{take_all}
use Rattle.tokei_table.specs.Bytes.{begins}
use Rattle.tokei_parts.specs.ReadingOf.{row_in}
use Rattle.tokei_parts.specs.SeenChoices.{enclosure_of}
use Rattle.tokei_parts.proofs.PlainBytes.{byte_within_at}
use Rattle.tokei_parts.proofs.calm.takes_byte.Goals as goal

denied : (a : Bool) → not a ≡ true → a ≡ false
denied true h = cc
denied false h = refl

pub returns-then-begins_none_within : goal.returns-then-begins_none_within
returns-then-begins_none_within c = λ h.
    let text : List ℕ = c.args.reading.now.text.now in
    let rest : take (length text - c.args.at) (drop c.args.at text) ≡ drop c.args.at text = take_all (length text - c.args.at) (drop c.args.at text) (omega (arith, length-drop c.args.at text)) in
    byte_within_at (row_in c.args.reading.now) c.args.reading.now.sound (enclosure_of c.args.item) None text c.args.at c.args.reading.now.matchers.now c.args.reading.now.matched c.requires
    (c.begins_none_within.ensures c.if-begins_none_within.true) (ap (begins c.args.item.closer.now) (sym rest) ∙ sym c.stands.ensures ∙ denied c.stands.result h)
