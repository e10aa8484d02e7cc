use Rattle.std.proofs.Common.{ℕ, ◌-◌, Option, Some, List, take, drop, length, ap, ◌∙◌}
use Rattle.tokei_parts.specs.Choice.{choice}
use Rattle.tokei_parts.specs.Items.{Block, Mode}
use Rattle.tokei_parts.specs.Places.{block_here, text_of}
use Rattle.tokei_parts.specs.ReadingOf.{row_in}
use Rattle.tokei_parts.specs.SeenChoices.{mode_of}
use Rattle.tokei_parts.proofs.Leading.{rest_is}
use Rattle.tokei_parts.proofs.walk.choice_within.Goals as goal

pub returns-clause-choice : goal.returns-clause-choice
returns-clause-choice c =
    let text : List ℕ = text_of c.args.place.now in
    let at : ℕ = c.args.place.now.at in
    let u : List ℕ = drop at text in
    let mode : Mode = mode_of (Some c.args.item) in
    let block : Option Block = block_here c.args.place.now in
    c.choose_within.ensures.choice block
    ∙ ap (λ r. choice r mode block (take (length text - at) u)) c.args.place.now.reading.now.row
    ∙ ap (choice (row_in c.args.place.now.reading.now) mode block) (rest_is at text)
