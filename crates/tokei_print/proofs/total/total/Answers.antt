use Rattle.std.proofs.Common.{◌++◌, [], codes, ap, ap₂, ◌∙◌}
use Rattle.tokei_print.specs.FilesAndCounts.{files_and_counts}
use Rattle.tokei_print.specs.Layouts.{separator_in}
use Rattle.tokei_print.specs.NameSection.{name_section}
use Rattle.tokei_languages.proofs.Refusals.{no_refusal}
use Rattle.tokei_print.proofs.total.total.Goals as goal

pub returns-clause-ok : goal.returns-clause-ok
returns-clause-ok c =
    let n = c.args.layout.now.columns in
    let counted = files_and_counts (separator_in c.args.layout.now) in
    c.in_ok-format.ensures.ok ∙ ap₂ (λ r t. r ++ (t ++ r)) c.row-row.ensures
    (c.as_str-total.ensures.value ∙ c.in_ok-total.ensures.ok
    ∙ ap₂ (λ s t. s ++ t) (c.in_ok-name.ensures ∙ ap (λ b. name_section n b (codes "Total") []) c.is_inaccurate.ensures)
    (ap₂ counted c.in_ok-files.ensures.sum c.in_ok-counts.ensures.sum))

pub returns-clause-overflow : goal.returns-clause-overflow
returns-clause-overflow c = λ t f. no_refusal t
