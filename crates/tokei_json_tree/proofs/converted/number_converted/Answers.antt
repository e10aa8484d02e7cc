use Rattle.std.proofs.Common.{◌≡◌, ◌≤◌, Some, sym, ◌∙◌, string_bytes, subst}
use Rattle.json.specs.Lex.{tokens}
use Rattle.json.specs.Print.{print}
use Rattle.serde_json.specs.Data.{depth}
use Rattle.serde_json.specs.Read.{max_depth, read}
use Rattle.serde_json.specs.View.{view}
use Rattle.serde_json.specs.Written.{IsInOrder}
use Rattle.tokei_json_tree.proofs.Conversions.{number_converted}
use Rattle.tokei_json_tree.proofs.converted.number_converted.Goals as goal

pub returns-in-Ok : goal.returns-in-Ok
returns-in-Ok c = λ n is.
    let text = c.in_ok-text in
    let made = c.in-Ok in
    let same : string_bytes text.text ≡ made.text.now = sym (made.ensures ∙ c.as_str.ensures.value) in
    number_converted _ c.args.value.now n made.text is
    (subst (λ s. s ≡ print (tokens s)) same text.ensures.compact)
    (subst (λ s. IsInOrder s (view c.args.value.now)) same text.ensures.order)
    (subst (λ s. depth (view c.args.value.now) ≤ max_depth → read s ≡ Some (view c.args.value.now)) same text.ensures.reads_back)
