use Rattle.std.proofs.Common.{◌≡◌, Err, map, rules}
use Rattle.tokei_table_row.specs.RowOf.{row_of}
use Rattle.tokei_table_json.specs.Outcome.{tested}
use Rattle.tokei_table_json.specs.declared.error.TableError.TheVariants.{NamedTwice, NamedTotal, Fallback}
use Rattle.tokei_table_json.proofs.Flaws.{refused_twice, refused_total, refused_fallback, found_refused}
use Rattle.tokei_table_json.proofs.flaw.row_flaw.Goals as goal

pub returns-in-Err-NamedTwice-clause-found : goal.returns-in-Err-NamedTwice-clause-found
returns-in-Err-NamedTwice-clause-found c =
    let e : tested (map row_of c.args.rows.now) ≡ Err NamedTwice = search rules in
    found_refused c.name_flaw.result _ _ _ e (refused_twice _ e) c.name_flaw.ensures.found

pub returns-in-Err-NamedTotal-clause-found : goal.returns-in-Err-NamedTotal-clause-found
returns-in-Err-NamedTotal-clause-found c =
    let e : tested (map row_of c.args.rows.now) ≡ Err NamedTotal = search rules in
    found_refused c.total_flaw.result _ _ _ e (refused_total _ e) c.total_flaw.ensures.found

pub returns-in-Err-Fallback-clause-found : goal.returns-in-Err-Fallback-clause-found
returns-in-Err-Fallback-clause-found c =
    let e : tested (map row_of c.args.rows.now) ≡ Err Fallback = search rules in
    found_refused c.fallback_flaw.result _ _ _ e (refused_fallback _ e) c.fallback_flaw.ensures.found
