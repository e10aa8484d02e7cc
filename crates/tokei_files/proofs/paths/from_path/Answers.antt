use Rattle.std.proofs.Common.{◌≡◌, ℕ, List, Option, IfOk, subst}
use Rattle.tokei_config.specs.Seen.{settings_of}
use Rattle.tokei_config.specs.Settings.{additions_in}
use Rattle.tokei_table.specs.Row.{Row}
use Rattle.tokei_files.specs.Paths.{language_by_path}
use Rattle.tokei_files.proofs.ExtendedLength.{of_both}
use Rattle.tokei_files.proofs.paths.from_path.Goals as goal

pub returns-clause-told : goal.returns-clause-told
returns-clause-told g c = λ t e.
    subst (λ (rows : List Row). IfOk c.language_of_path.result (λ (o : Option ℕ). o ≡ language_by_path t rows c.args.path.now)) c.in_ok-extended.ensures (c.language_of_path.ensures.told t e)

pub returns-clause-of_table : goal.returns-clause-of_table
returns-clause-of_table g c =
    of_both (additions_in (settings_of c.args.config.now)) c.args.table.now _ c.language_of_path.result c.in_ok-extended.ensures c.language_of_path.ensures.of_table
