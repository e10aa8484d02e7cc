use Rattle.std.proofs.Common.{◌≡◌, ◌++◌, ◌∷◌, ◌<◌, ◌^◌, IfOk, length, string_bytes, rules, sym, ap, subst, ◌∙◌}
use Rattle.std.specs.Fmt.{styled_text}
use Rattle.tokei_stats.proofs.Padding.{styled_left}
use Rattle.tokei_stats.specs.ReportRow.{name_cell}
use Rattle.tokei_stats.specs.Seen.{sums_of}
use Rattle.tokei_table.specs.Bytes.{space}
use Rattle.tokei_print.specs.Cells.{subtotal_cells}
use Rattle.tokei_print.specs.Layouts.{separator_in}
use Rattle.tokei_print.specs.Rules.{newline}
use Rattle.tokei_print.specs.Subtotal.{path_places}
use Rattle.tokei_print.proofs.Padding.{short_cell}
use Rattle.tokei_print.proofs.layout.Layout.subtotal.Goals as goal

pub returns-clause-ok : goal.returns-clause-ok
returns-clause-ok c =
    let w = path_places c.args.self.now.columns in
    let name = c.args.name.now in
    let small : length name < 2 ^ 64 = search rules in
    let cell : styled_text c.laid_out.result name ≡ name_cell w name =
    ap (λ l. styled_text l name) c.laid_out.ensures ∙ styled_left w name small ∙ sym (short_cell w name c.requires) in
    let rest = subtotal_cells (separator_in c.args.self.now) (sums_of c.args.counts) ++ newline in
    subst (λ b. IfOk c.counted_row.result (λ s. string_bytes s ≡ b))
    (ap (λ b. b ++ rest) c.in_ok-row.ensures.ok ∙ ap (λ x. space ∷ (x ++ rest)) cell)
    c.counted_row.ensures.ok

pub returns-clause-overflow : goal.returns-clause-overflow
returns-clause-overflow c = c.counted_row.ensures.overflow
