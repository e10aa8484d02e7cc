use Rattle.std.proofs.Common.{◌≡◌, is_some, sym, subst}
use Rattle.std.specs.Option.{IfSome}
use Rattle.std.specs.Result.{IfOk}
use Rattle.tokei_table_json.specs.Flaws.{Tells, rows_in_data, is_flawed_data}
use Rattle.tokei_table_json.specs.Outcome.{outcome_of}
use Rattle.tokei_table_json.proofs.flaw.flaw_in.Goals as goal

pub returns-in-Ok-clause-found : goal.returns-in-Ok-clause-found
returns-in-Ok-clause-found c =
    subst (λ d. IfOk c.reading_flaw.result (λ o. is_some o ≡ is_flawed_data d)) (sym c.in-Ok.ensures.tree.reads)
    c.reading_flaw.ensures.found

pub returns-in-Ok-clause-tells : goal.returns-in-Ok-clause-tells
returns-in-Ok-clause-tells c =
    subst (λ d. IfOk c.reading_flaw.result (λ o. IfSome o (Tells (outcome_of d) (rows_in_data d))))
    (sym c.in-Ok.ensures.tree.reads) c.reading_flaw.ensures.tells
