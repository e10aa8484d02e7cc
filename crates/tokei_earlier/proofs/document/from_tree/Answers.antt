use Rattle.std.proofs.Common.{Ok, refl, sym, ap, ◌∙◌}
use Rattle.json.specs.Value.{value_view}
use Rattle.tokei_json_tree.specs.TreeData.{data_of}
use Rattle.tokei_earlier.specs.Outcome.{outcome_of_value}
use Rattle.tokei_earlier.proofs.Values.{by_tests}
use Rattle.tokei_earlier.proofs.document.from_tree.Goals as goal

pub returns-in-Ok-clause-languages : goal.returns-in-Ok-clause-languages
returns-in-Ok-clause-languages c =
    let value = data_of (value_view c.args.tree.now) in
    ap (λ rows. outcome_of_value rows value) (sym c.in_ok-table.ensures)
    ∙ by_tests c.in_ok-table.table value (sym c.has_layout.ensures ∙ c.if-not-has_layout.false)
    (sym c.all_known.ensures ∙ c.if-not-all_known.false) (sym c.all_once.ensures ∙ c.if-not-all_once.false)
    ∙ ap Ok (sym c.in-Ok.ensures.ok)

pub returns-then-not-all_once-clause-refused : goal.returns-then-not-all_once-clause-refused
returns-then-not-all_once-clause-refused c = λ _.
    let value = data_of (value_view c.args.tree.now) in
    ap (λ rows. outcome_of_value rows value) (sym c.in_ok-table.ensures)
    ∙ by_tests c.in_ok-table.table value (sym c.has_layout.ensures ∙ c.if-not-has_layout.false)
    (sym c.all_known.ensures ∙ c.if-not-all_known.false) (sym c.all_once.ensures ∙ c.if-not-all_once.true)

pub returns-then-not-all_known-clause-refused : goal.returns-then-not-all_known-clause-refused
returns-then-not-all_known-clause-refused c = λ _.
    let value = data_of (value_view c.args.tree.now) in
    ap (λ rows. outcome_of_value rows value) (sym c.in_ok-table.ensures)
    ∙ by_tests c.in_ok-table.table value (sym c.has_layout.ensures ∙ c.if-not-has_layout.false) (sym c.all_known.ensures ∙ c.if-not-all_known.true) refl

pub returns-clause-refused : goal.returns-clause-refused
returns-clause-refused c = λ other. absurd (other refl)
