use Rattle.std.proofs.Common.{◌≡◌, rules, ap, ap₂, ◌∙◌, ◌++◌, ◌∷◌, [], List, map, string_bytes}
use Rattle.tokei_languages.specs.Seen.{report_of}
use Rattle.tokei_stats.specs.declared.report.Report.{Report}
use Rattle.tokei_languages.proofs.copies.blob_report.Goals as goal

pub returns-clause-ok : goal.returns-clause-ok
returns-clause-ok c =
    let report : Report = record { stats = c.in_ok-try_clone.field-0; name = c.in_ok-clone.field-0 } in
    let name : string_bytes report.name ≡ string_bytes c.args.name.now = search rules in
    ap (map report_of) (c.in_ok-push.ensures.items ∙ ap (λ (rs : List Report). rs ++ report ∷ []) c.in_ok-reports.ensures.items)
    ∙ ap₂ (λ name stats. record { name = name; stats = stats } ∷ []) name c.in_ok-try_clone.ensures.ok
