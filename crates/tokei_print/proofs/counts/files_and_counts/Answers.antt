use Rattle.std.proofs.Common.{◌≡◌, ap, append_assoc, ◌++◌, ◌∷◌, ◌∙◌, IfOk, string_bytes, subst}
use Rattle.tokei_options.specs.Grouping.{separator_text}
use Rattle.tokei_print.specs.Cells.{number_cells, number_text, right_in}
use Rattle.tokei_print.specs.FilesAndCounts.{files_places}
use Rattle.tokei_print.specs.Rules.{newline}
use Rattle.tokei_stats.specs.Seen.{sums_of}
use Rattle.tokei_table.specs.Bytes.{space}
use Rattle.tokei_print.proofs.counts.files_and_counts.Goals as goal

pub returns-clause-ok : goal.returns-clause-ok
returns-clause-ok c =
    let separator = separator_text c.args.format.separator in
    let name = string_bytes c.args.name in
    let files = space ∷ right_in files_places (number_text separator c.args.files) in
    let rest = number_cells separator (sums_of c.args.counts) ++ newline in
    subst (λ b. IfOk c.counted_row.result (λ s. string_bytes s ≡ b))
    (ap (λ b. b ++ rest) c.in_ok-put_cell.ensures ∙ append_assoc name files rest)
    c.counted_row.ensures.ok

pub returns-clause-fits : goal.returns-clause-fits
returns-clause-fits c = c.counted_row.ensures.fits

pub returns-clause-overflow : goal.returns-clause-overflow
returns-clause-overflow c = c.counted_row.ensures.overflow
