use Rattle.tokei_languages.specs.Seen.{languages_of}
use Rattle.tokei_stats.specs.Seen.{stats_of}
use Rattle.tokei_statistics.proofs.Running.{report_put, mark_put}
use Rattle.tokei_statistics.proofs.counting.add_counted.Goals as goal

pub returns-in-Ok-clause-reported : goal.returns-in-Ok-clause-reported
returns-in-Ok-clause-reported c =
    report_put c.add_report.result c.args.counted c.in-Ok.stats (languages_of c.args.languages.now)
    (languages_of c.add_report.new.self) c.args.language c.args.file.path
    _ c.in-Ok.is
    (λ i. record { name = c.into_string-name.ensures i; stats = stats_of c.in-Ok.stats })
    c.add_report.ensures.ok

pub returns-in_ok-note_unread-in-Err-Refused-clause-marked : goal.returns-in_ok-note_unread-in-Err-Refused-clause-marked
returns-in_ok-note_unread-in-Err-Refused-clause-marked c =
    mark_put c.mark_inaccurate.result c.args.counted (languages_of c.args.languages.now)
    (languages_of c.mark_inaccurate.new.self) c.args.language c.args.file.path c.mark_inaccurate.ensures.ok
