use Rattle.std.proofs.Common.{◌∙◌, ℕ, List}
use Rattle.tokei_table.specs.Lookups.{first_where, has_name_in_any_case}
use Rattle.tokei_parts.proofs.Utf8.{utf8_some, utf8_none}
use Rattle.tokei_parts.proofs.openings.by_word.Goals as goal

pub returns-in-Ok : goal.returns-in-Ok
returns-in-Ok c =
    c.from_str.ensures.value
    ∙ utf8_some c.args.word.now c.in-Ok.word.now
    (λ (w : List ℕ). first_where (has_name_in_any_case w) c.args.table.now)
    c.in-Ok.ensures.cases.1 c.in-Ok.ensures.cases.0

pub returns-in-Err : goal.returns-in-Err
returns-in-Err c = utf8_none c.args.word.now (first_where (has_name_in_any_case c.args.word.now) c.args.table.now) c.in-Err.ensures.cases.0
