use Rattle.std.proofs.Common.{◌≡◌, [], ◌++◌, Err, IfOk, codes, string_bytes, sym, ap, subst, ◌∙◌, rules}
use Rattle.tokei_stats.proofs.Members.{blobs_seen}
use Rattle.tokei_stats.specs.Reports.{report_of}
use Rattle.tokei_stats.specs.Shown.{shown}
use Rattle.tokei_stats.specs.Statistics.{Counts, blobs}
use Rattle.tokei_stats.specs.declared.error.CountError.TheVariants.{Overflow}
use Rattle.tokei_print.specs.BlobRows.{BlobRowsFit, blob_rows, name_line, own_row}
use Rattle.tokei_print.specs.LinesFit.{LinesFit}
use Rattle.tokei_languages.specs.Names.{name_in}
use Rattle.tokei_print.specs.Subtotal.{subtotal}
use Rattle.tokei_print.proofs.Behind.{four_behind}
use Rattle.tokei_languages.proofs.Refusals.{no_refusal}
use Rattle.tokei_print.proofs.file_rows.file_block.Goals as goal

pub returns-clause-ok : goal.returns-clause-ok
returns-clause-ok c =
    let layout = c.args.layout.now in
    let report = report_of c.args.report.now in
    let total = λ (n : Counts). subtotal layout (codes "|- (Total)") n in
    let line = name_line layout c.args.first in
    let own = own_row layout c.args.language.name.now report.stats in
    let rows = blob_rows layout (name_in c.args.language.table.now) c.args.language.inaccurate in
    subst (λ b. IfOk c.joined-3.result (λ s. string_bytes s ≡ b))
    (four_behind [] _ _ _ _ (line (shown report.name)) own (rows (blobs report.stats)) _
    (c.in_ok-line.ensures ∙ ap line (c.deref-2.ensures ∙ c.in_ok-shown.ensures ∙ ap shown c.deref.ensures))
    (c.in_ok-begun.ensures.ok _ c.in_ok-own.ensures)
    (c.in_ok-rows.ensures.ok _ c.blob_rows-blobs.ensures.ok ∙ ap (λ bs. string_bytes c.in_ok-begun.begun ++ rows bs) (sym (blobs_seen c.args.report.now.stats)))
    (ap (λ n. string_bytes c.in_ok-rows.rows ++ total n) c.in_ok-sums.ensures.sum))
    (c.joined-3.ensures.ok _ c.subtotal.ensures.ok)

pub returns-in_err-rows-clause-overflow : goal.returns-in_err-rows-clause-overflow
returns-in_err-rows-clause-overflow c = λ t f.
    let same : c.in_err-rows.field-0.0 ≡ Overflow = search rules in
    c.blob_rows-blobs.ensures.overflow (c.in_err-rows.ensures.overflow (ap (λ x. Err x) same))
    (subst BlobRowsFit (blobs_seen c.args.report.now.stats) f.blobs)

pub returns-clause-overflow : goal.returns-clause-overflow
returns-clause-overflow c = λ t f.
    c.subtotal.ensures.overflow (c.joined-3.ensures.overflow t) (subst LinesFit (sym c.in_ok-sums.ensures.sum) f.subtotal)

pub returns-in_err-begun-clause-overflow : goal.returns-in_err-begun-clause-overflow
returns-in_err-begun-clause-overflow c = λ t f.
    let same : c.in_err-begun.field-0.0 ≡ Overflow = search rules in
    no_refusal (c.in_err-begun.ensures.overflow (ap (λ x. Err x) same))
