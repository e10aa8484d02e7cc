use Rattle.std.proofs.Common.{◌∙◌, sym, map}
use Rattle.tokei_table_row.specs.RowOf.{row_of}
use Rattle.tokei_table_json.proofs.Readings.{one_total, one_missing, all_pass}
use Rattle.tokei_table_json.proofs.reading.test.Goals as goal

pub returns-then-names_total-clause-value : goal.returns-then-names_total-clause-value
returns-then-names_total-clause-value c = λ _.
    one_total (map row_of c.args.rows.now) (sym c.all_have_tokens.ensures ∙ c.if-not-all_have_tokens.false)
    (sym c.in_ok-names_twice.ensures ∙ c.if-branch.false) (sym c.names_total.ensures ∙ c.if-names_total.true)

pub returns-then-not-all_have_fallbacks-clause-value : goal.returns-then-not-all_have_fallbacks-clause-value
returns-then-not-all_have_fallbacks-clause-value c = λ _.
    one_missing (map row_of c.args.rows.now) (sym c.all_have_tokens.ensures ∙ c.if-not-all_have_tokens.false)
    (sym c.in_ok-names_twice.ensures ∙ c.if-branch.false) (sym c.names_total.ensures ∙ c.if-names_total.false) (sym c.all_have_fallbacks.ensures ∙ c.if-not-all_have_fallbacks.true)

pub returns-clause-value : goal.returns-clause-value
returns-clause-value c = λ _.
    all_pass (map row_of c.args.rows.now) (sym c.all_have_tokens.ensures ∙ c.if-not-all_have_tokens.false)
    (sym c.in_ok-names_twice.ensures ∙ c.if-branch.false) (sym c.names_total.ensures ∙ c.if-names_total.false) (sym c.all_have_fallbacks.ensures ∙ c.if-not-all_have_fallbacks.false)
