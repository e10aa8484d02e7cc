use Rattle.std.proofs.Common.{◌+◌, ◌∙◌, ap, drop, sym}
use Rattle.toml.specs.View.{items_view, view}
use Rattle.tokei_config.specs.Members.{all_of, as_language}
use Rattle.tokei_config.proofs.Lists.{behind, all_of-read, all_of-unread, all_of-end}
use Rattle.tokei_config.proofs.languages.languages_named.Goals as goal

pub loop-value-preserved : goal.loop-value-preserved
loop-value-preserved c =
    let named = ap (λ v. as_language c.args.table.now (view v)) (sym c.value-item.is) ∙ sym c.language.ensures ∙ c.in-Some.is in
    c.loop-value.invariant
    ∙ all_of-read (as_language c.args.table.now) c.loop-value.languages.items c.args.values.now c.loop-value.value-index c.value-item.result c.in-Some.language c.loop-value-test.true named
    ∙ ap (λ ls. behind ls (all_of (as_language c.args.table.now) (items_view (drop (c.loop-value.value-index + 1) c.args.values.now)))) (sym c.in_ok-push-in-Some.ensures.items)

pub returns-in-None : goal.returns-in-None
returns-in-None c =
    let unnamed = ap (λ v. as_language c.args.table.now (view v)) (sym c.value-item.is) ∙ sym c.language.ensures ∙ c.in-None.is in
    c.loop-value.invariant
    ∙ all_of-unread (as_language c.args.table.now) c.loop-value.languages.items c.args.values.now c.loop-value.value-index c.value-item.result c.loop-value-test.true unnamed

pub returns : goal.returns
returns c = c.loop-value.invariant ∙ all_of-end (as_language c.args.table.now) c.loop-value.languages.items c.args.values.now c.loop-value.value-index c.loop-value-test.false
