use Rattle.std.proofs.Common.{◌≡◌, ◌++◌, IfOk, length, string_bytes, sym, ap, ap₂, subst, ◌∙◌, rules}
use Rattle.std.proofs.lemmas.List.{length-map}
use Rattle.std.specs.Vec.{vec_len}
use Rattle.tokei_languages.specs.Seen.{language_of}
use Rattle.tokei_stats.specs.Reports.{report_of}
use Rattle.tokei_print.specs.FilesAndCounts.{files_and_counts}
use Rattle.tokei_print.specs.Layouts.{separator_in}
use Rattle.tokei_print.proofs.language_row.language_row.Goals as goal

pub returns-clause-ok : goal.returns-clause-ok
returns-clause-ok c =
    let language = language_of c.args.language.now in
    let length-items : vec_len c.args.language.now.reports ≡ length c.args.language.now.reports.items = search rules in
    let files : c.len-files.result ≡ length language.reports = c.len-files.ensures ∙ length-items ∙ sym (length-map c.args.language.now.reports.items report_of) in
    subst (λ b. IfOk c.files_and_counts.result (λ s. string_bytes s ≡ b))
    (ap₂ (λ x y. x ++ y) c.in_ok-row.ensures (ap (λ n. files_and_counts (separator_in c.args.layout.now) n language.counts) files))
    c.files_and_counts.ensures.ok

pub returns-clause-fits : goal.returns-clause-fits
returns-clause-fits c = c.files_and_counts.ensures.fits

pub returns-clause-overflow : goal.returns-clause-overflow
returns-clause-overflow c = c.files_and_counts.ensures.overflow
