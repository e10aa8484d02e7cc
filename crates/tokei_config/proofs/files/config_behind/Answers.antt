use Rattle.std.proofs.Common.{◌++◌, ◌∙◌, ap, append_assoc}
use Rattle.tokei_config.specs.Files.{settings_of_folder}
use Rattle.tokei_config.specs.Flaws.{flaws_in, placed_causes}
use Rattle.tokei_config.specs.Seen.{settings_of}
use Rattle.tokei_config.specs.Settings.{first_of_each}
use Rattle.tokei_config.proofs.files.config_behind.Goals as goal

pub returns-clause-told : goal.returns-clause-told
returns-clause-told g c = λ t e.
    c.or.ensures
    ∙ ap (λ s. first_of_each s (settings_of c.in_ok-config.config)) (c.in_ok-home.ensures.told t e)
    ∙ ap (first_of_each (settings_of_folder c.args.table.now t c.args.dirs.now.home)) (c.in_ok-config.ensures.told t (c.in_ok-home.ensures.folders.same ∙ e))

pub returns-clause-flawed : goal.returns-clause-flawed
returns-clause-flawed g c = λ t e.
    let config = flaws_in c.args.table.now t c.args.dirs.now.config in
    c.in_ok-config.ensures.flawed t (c.in_ok-home.ensures.folders.same ∙ e)
    ∙ ap (λ l. l ++ config) (c.in_ok-home.ensures.flawed t e)
    ∙ append_assoc (placed_causes c.args.flaws.now.items) (flaws_in c.args.table.now t c.args.dirs.now.home) config
