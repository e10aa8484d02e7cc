use Rattle.std.proofs.Common.{sym, ◌∙◌}
use Rattle.tokei_files.proofs.Deciding.{told_by_head}
use Rattle.tokei_files.proofs.paths.language_of_path.Goals as goal

pub returns-in-None-2-clause-told : goal.returns-in-None-2-clause-told
returns-in-None-2-clause-told g c = λ t e.
    told_by_head t c.args.table.now c.args.path.now c.file_name-name.result.now
    c.from_shebang.result c.file_name-name.ensures
    (sym c.in-None-2.is ∙ c.in_ok-language.ensures.value) c.if-has_extension.ensures
    (c.from_shebang.ensures.told t e)
