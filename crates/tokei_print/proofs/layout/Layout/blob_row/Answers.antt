use Rattle.std.proofs.Common.{◌≡◌, ◌∷◌, ◌++◌, replicate, append_assoc, IfOk, string_bytes, sym, ap, ap₂, subst, ◌∙◌}
use Rattle.tokei_table.specs.Bytes.{space}
use Rattle.tokei_stats.specs.Seen.{sums_of}
use Rattle.tokei_stats.specs.Statistics.{Counts}
use Rattle.tokei_print.specs.Cells.{number_cells}
use Rattle.tokei_print.specs.FilesAndCounts.{files_places}
use Rattle.tokei_print.specs.Layouts.{separator_in}
use Rattle.tokei_print.specs.LinesFit.{LinesFit}
use Rattle.tokei_print.specs.Rules.{newline}
use Rattle.tokei_print.proofs.layout.Layout.blob_row.Goals as goal

pub returns-clause-ok : goal.returns-clause-ok
returns-clause-ok c =
    let files = space ∷ replicate files_places space in
    let rest = λ (n : Counts). number_cells (separator_in c.args.self.now) n ++ newline in
    subst (λ b. IfOk c.counted_row.result (λ s. string_bytes s ≡ b))
    (ap (λ t. t ++ rest (sums_of c.own_counts.result)) c.in_ok-push_str.ensures.bytes
    ∙ append_assoc (string_bytes c.in_ok-row.row) files (rest (sums_of c.own_counts.result))
    ∙ ap₂ (λ t n. t ++ (files ++ rest n)) c.in_ok-row.ensures c.own_counts.ensures)
    c.counted_row.ensures.ok

pub returns-clause-overflow : goal.returns-clause-overflow
returns-clause-overflow c = λ t f. c.counted_row.ensures.overflow t (subst LinesFit (sym c.own_counts.ensures) f)
