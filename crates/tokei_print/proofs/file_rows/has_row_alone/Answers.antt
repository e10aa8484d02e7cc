use Rattle.std.proofs.Common.{Bool, sym, ap, ◌∙◌}
use Rattle.std.specs.Prelude.{◌||◌}
use Rattle.tokei_stats.proofs.Members.{blobs_seen}
use Rattle.tokei_stats.specs.Reports.{report_of}
use Rattle.tokei_stats.specs.Statistics.{blobs}
use Rattle.tokei_print.specs.FileRows.{no_blobs}
use Rattle.tokei_print.proofs.Files.{empty_blobs}
use Rattle.tokei_print.proofs.file_rows.has_row_alone.Goals as goal

pub returns-else-compact : goal.returns-else-compact
returns-else-compact c =
    let stats = c.args.report.now.stats in
    empty_blobs c.is_empty.result _ c.is_empty.ensures ∙ ap no_blobs (sym (blobs_seen stats))
    ∙ ap (λ (b : Bool). b || no_blobs (blobs (report_of c.args.report.now).stats)) (sym c.if-compact.false)
