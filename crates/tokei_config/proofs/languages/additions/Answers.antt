use Rattle.std.proofs.Common.{◌∙◌, ap, sym}
use Rattle.toml.specs.View.{members_view, view}
use Rattle.tokei_config.specs.Languages.{addition, additions}
use Rattle.tokei_config.specs.Seen.{additions_of}
use Rattle.tokei_config.proofs.Lists.{behind}
use Rattle.tokei_config.proofs.InOrder.{additions-read}
use Rattle.tokei_config.proofs.languages.additions.Goals as goal

pub loop-key-preserved : goal.loop-key-preserved
loop-key-preserved c =
    c.loop-key.invariant
    ∙ additions-read c.args.table.now c.loop-key.found.items c.in-Some.key.now c.in-Some.entry.now c.next.new.self c.loop-key.key-iterator c.in_ok-addition.field-0
    (c.in-Some.ensures.steps) (ap (λ k. addition c.args.table.now k (view c.in-Some.entry.now)) (sym c.as_str.ensures.value) ∙ c.in_ok-addition.ensures)
    ∙ ap (λ xs. behind (additions_of xs) (additions c.args.table.now (members_view c.next.new.self))) (sym c.in_ok-push.ensures.items)
