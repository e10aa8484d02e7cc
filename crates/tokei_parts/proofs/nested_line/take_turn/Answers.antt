use Rattle.std.proofs.Common.{◌∙◌, sym, ap}
use Rattle.tokei_parts.specs.NestedLine.{turned_by}
use Rattle.tokei_parts.specs.Seen.{chain_of}
use Rattle.tokei_parts.specs.SeenChoices.{enclosure_of}
use Rattle.tokei_parts.proofs.Stack.{chain_of-push}
use Rattle.tokei_parts.proofs.nested_line.take_turn.Goals as goal

pub returns-in_ok-push : goal.returns-in_ok-push
returns-in_ok-push c =
    ap chain_of c.in_ok-push.ensures.items ∙ chain_of-push c.args.stack.now.items c.args.turn.inner
    ∙ ap (λ opens. turned_by opens (enclosure_of c.args.turn.inner) (chain_of c.args.stack.now.items)) (sym c.if-turn.true)
