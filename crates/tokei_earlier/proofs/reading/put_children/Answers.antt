use Rattle.std.proofs.Common.{◌∙◌, ap, sym}
use Rattle.tokei_earlier.specs.ReadReports.{put_named}
use Rattle.tokei_stats.specs.Reports.{children_of, reports_of}
use Rattle.tokei_earlier.proofs.Insertions.{insert_seen}
use Rattle.tokei_earlier.proofs.reading.put_children.Goals as goal

pub returns-in_ok-insert : goal.returns-in_ok-insert
returns-in_ok-insert c =
    ap children_of c.in_ok-insert.ensures.entries
    ∙ insert_seen reports_of c.args.children.now.entries c.in-Some.language c.args.reports
    ∙ ap (λ o. put_named o (children_of c.args.children.now.entries) (reports_of c.args.reports)) (sym c.in-Some.is)
