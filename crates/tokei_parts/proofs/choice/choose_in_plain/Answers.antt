use Rattle.std.proofs.Common.{◌∙◌, sym}
use Rattle.tokei_table_row.specs.RowOf.{row_of}
use Rattle.tokei_parts.specs.SeenChoices.{choice_of}
use Rattle.tokei_parts.proofs.PlainOpenings.{plain_choice}
use Rattle.tokei_parts.proofs.choice.choose_in_plain.Goals as goal

pub returns-else-opens-clause-choice : goal.returns-else-opens-clause-choice
returns-else-opens-clause-choice c block same =
    plain_choice (row_of c.args.syntax.now) block c.args.text.now c.args.matchers.now.openings (choice_of block c.opening.result)
    (same ∙ c.if-opens.false) (sym c.is_escape.ensures ∙ c.if-is_escape.false) c.requires.matched (c.opening.ensures.choice block)
