-- Each text is copied in its turn.
use Rattle.std.proofs.Common.{◌++◌, ◌∷◌, [], ◌∙◌, Bor, List, ℕ, ap, map, string_bytes, sym, take}
use Rattle.std.proofs.lemmas.List.{map-append, map_more}
use Rattle.tokei_cli.proofs.cli.all_owned.Goals as goal

pub loop-text-preserved : goal.loop-text-preserved
loop-text-preserved c =
    let now : Bor (List ℕ) → List ℕ = λ t. t.now in
    let texts = c.args.texts.now in
    let copy = c.in_ok-from_str.field-0 in
    ap (map string_bytes) c.in_ok-push.ensures.items ∙ map-append string_bytes c.loop-text.all.items (copy ∷ [])
    ∙ ap (λ (ts : List (List ℕ)). ts ++ string_bytes copy ∷ []) c.loop-text.invariant
    ∙ ap (λ (t : List ℕ). map now (take c.loop-text.text-index texts) ++ t ∷ []) c.in_ok-from_str.ensures.ok
    ∙ sym (map_more now texts c.loop-text.text-index _ c.loop-text-test.true)
