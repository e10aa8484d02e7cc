use Rattle.std.proofs.Common.{◌∷◌, ◌++◌, append_assoc, string_bytes, ap, ◌∙◌}
use Rattle.tokei_options.specs.Grouping.{separator_text}
use Rattle.tokei_stats.specs.ReportRow.{count_places}
use Rattle.tokei_stats.specs.Seen.{sums_of}
use Rattle.tokei_stats.specs.Statistics.{lines_of}
use Rattle.tokei_table.specs.Bytes.{space}
use Rattle.tokei_print.specs.Cells.{number_text, right_in}
use Rattle.tokei_print.specs.Rules.{newline}
use Rattle.tokei_print.proofs.Behind.{four_behind}
use Rattle.tokei_languages.proofs.Refusals.{no_refusal}
use Rattle.tokei_print.proofs.cells.counted_row.Goals as goal

pub returns-clause-ok : goal.returns-clause-ok
returns-clause-ok c =
    let text = number_text (separator_text c.args.format.separator) in
    let row = string_bytes c.args.row in
    let lines = space ∷ right_in c.args.places (text (lines_of (sums_of c.args.counts))) in
    let code = space ∷ right_in count_places (text c.args.counts.code) in
    let comments = space ∷ right_in count_places (text c.args.counts.comments) in
    let blanks = space ∷ right_in count_places (text c.args.counts.blanks) in
    c.in_ok-push_str.ensures.bytes
    ∙ ap (λ b. b ++ newline) (four_behind row _ _ _ _ lines code comments blanks
    (c.in_ok-put_cell.ensures ∙ ap (λ n. row ++ (space ∷ right_in c.args.places (text n))) c.in_ok-lines.ensures.sum)
    c.in_ok-put_cell-2.ensures c.in_ok-put_cell-3.ensures c.in_ok-put_cell-4.ensures)
    ∙ append_assoc row (lines ++ (code ++ (comments ++ blanks))) newline

pub returns-clause-overflow : goal.returns-clause-overflow
returns-clause-overflow c = λ t f. no_refusal t

pub returns-clause-fits : goal.returns-clause-fits
returns-clause-fits c = c.in_ok-lines.ensures.fits
