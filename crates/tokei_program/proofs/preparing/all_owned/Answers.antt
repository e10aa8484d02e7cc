-- Each text is copied in its turn.
use Rattle.std.proofs.Common.{◌≡◌, ◌∙◌, List, [], ◌∷◌, ◌++◌, ℕ, ap, map, rules, string_bytes, take}
use Rattle.std.proofs.lemmas.List.{map-append}
use Rattle.tokei_invocation.proofs.Taken.{texts_all, texts_next}
use Rattle.tokei_program.proofs.preparing.all_owned.Goals as goal

pub loop-text-preserved : goal.loop-text-preserved
loop-text-preserved c =
    let all = c.loop-text.all.items in
    let text = c.text-item.result in
    let copy = c.in_ok-from_str.field-0 in
    let pushed : c.push.new.self.items ≡ all ++ copy ∷ [] = search rules in
    let copied : string_bytes copy ≡ string_bytes text = search rules in
    ap (map string_bytes) pushed ∙ map-append string_bytes all (copy ∷ []) ∙ ap (λ (ts : List (List ℕ)). ts ++ string_bytes copy ∷ []) c.loop-text.invariant
    ∙ ap (λ (t : List ℕ). map string_bytes (take c.loop-text.text-index c.args.texts.now) ++ t ∷ []) copied
    ∙ texts_next c.args.texts.now c.loop-text.text-index text c.loop-text-test.true c.text-item.is

pub returns : goal.returns
returns c = c.loop-text.invariant ∙ texts_all c.args.texts.now c.loop-text.text-index c.loop-text-test.false
