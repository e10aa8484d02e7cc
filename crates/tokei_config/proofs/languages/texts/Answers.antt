use Rattle.std.proofs.Common.{◌+◌, ◌∷◌, ◌∙◌, [], Some, ap, drop, map, string_bytes, sym}
use Rattle.std.proofs.lemmas.List.{map-append}
use Rattle.toml.specs.Data.{as_str}
use Rattle.toml.specs.View.{items_view, view}
use Rattle.tokei_config.specs.Members.{all_of}
use Rattle.tokei_config.proofs.Lists.{behind, all_of-read, all_of-unread, all_of-end}
use Rattle.tokei_config.proofs.languages.texts.Goals as goal

pub loop-value-preserved : goal.loop-value-preserved
loop-value-preserved c =
    let text = c.in_ok-from_str-in-Some.field-0 in
    let read = ap (λ v. as_str (view v)) (sym c.value-item.is) ∙ sym c.in-Some.ensures ∙ ap (λ t. Some t) (sym c.in_ok-from_str-in-Some.ensures.ok) in
    c.loop-value.invariant
    ∙ all_of-read as_str (map string_bytes c.loop-value.texts.items) c.args.values.now c.loop-value.value-index c.value-item.result (string_bytes text) c.loop-value-test.true read
    ∙ ap (λ ts. behind ts (all_of as_str (items_view (drop (c.loop-value.value-index + 1) c.args.values.now))))
    (sym (ap (map string_bytes) c.in_ok-push-in-Some.ensures.items ∙ map-append string_bytes c.loop-value.texts.items (text ∷ [])))

pub returns-in-None : goal.returns-in-None
returns-in-None c =
    let unread = ap (λ v. as_str (view v)) (sym c.value-item.is) ∙ sym c.in-None.ensures in
    c.loop-value.invariant
    ∙ all_of-unread as_str (map string_bytes c.loop-value.texts.items) c.args.values.now c.loop-value.value-index c.value-item.result c.loop-value-test.true unread

pub returns : goal.returns
returns c = c.loop-value.invariant ∙ all_of-end as_str (map string_bytes c.loop-value.texts.items) c.args.values.now c.loop-value.value-index c.loop-value-test.false
