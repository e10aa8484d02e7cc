use Rattle.std.proofs.Common.{◌++◌, ◌∙◌, ap}
use Rattle.tokei_config.specs.Files.{settings_of_folder}
use Rattle.tokei_config.specs.Flaws.{flaws_in, placed_causes}
use Rattle.tokei_config.specs.Seen.{settings_of}
use Rattle.tokei_config.specs.Settings.{first_of_each}
use Rattle.tokei_config.proofs.config.Config.read_config_files.Goals as goal

pub returns-clause-told : goal.returns-clause-told
returns-clause-told g c = λ t e.
    c.or.ensures
    ∙ ap (λ s. first_of_each s (settings_of c.in_ok-behind.behind)) (c.in_ok-current.ensures.told t e)
    ∙ ap (first_of_each (settings_of_folder c.args.table.now t c.args.dirs.now.current)) (c.in_ok-behind.ensures.told t (c.in_ok-current.ensures.folders.same ∙ e))

pub returns-clause-flawed : goal.returns-clause-flawed
returns-clause-flawed g c = λ t e.
    let current = flaws_in c.args.table.now t c.args.dirs.now.current in
    let behind = flaws_in c.args.table.now t c.args.dirs.now.home ++ flaws_in c.args.table.now t c.args.dirs.now.config in
    c.in_ok-behind.ensures.flawed t (c.in_ok-current.ensures.folders.same ∙ e)
    ∙ ap (λ l. l ++ behind) (c.in_ok-current.ensures.flawed t e ∙ ap (λ l. placed_causes l ++ current) c.new-flaws.ensures.items)
