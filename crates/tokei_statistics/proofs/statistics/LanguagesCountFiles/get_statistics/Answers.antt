use Rattle.tokei_config.specs.Seen.{settings_of}
use Rattle.tokei_languages.specs.Seen.{languages_of}
use Rattle.tokei_walk.specs.Walks.{texts_of}
use Rattle.tokei_files.specs.Configs.{counting_by, kept_by}
use Rattle.tokei_statistics.proofs.Running.{all_added, always_err}
use Rattle.tokei_statistics.proofs.statistics.LanguagesCountFiles.get_statistics.Goals as goal

pub returns-in_err-renew_counts-clause-partly : goal.returns-in_err-renew_counts-clause-partly
returns-in_err-renew_counts-clause-partly g c = λ t e.
    let s = settings_of c.args.config.now in
    always_err c.from_residual-in_err-renew_counts.result
    (all_added (counting_by c.args.table.now s) t
    (kept_by s t (texts_of c.args.paths.now) (texts_of c.args.ignored.now))
    (languages_of c.args.self.now) (languages_of c.get_all_files.new.self) _
    (c.in_ok-notes.ensures.told t e) c.in_err-renew_counts.ensures.err)
