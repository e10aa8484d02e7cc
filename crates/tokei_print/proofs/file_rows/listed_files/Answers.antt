use Rattle.std.proofs.Common.{◌≡◌, ◌++◌, Bool, IfOk, filter, length, ap, ap₂, subst, ◌∙◌, rules, string_bytes}
use Rattle.std.specs.Prelude.{◌==◌}
use Rattle.std.specs.String.{string_len}
use Rattle.tokei_print.specs.FileRows.{file_blocks, has_row_alone, with_blocks}
use Rattle.tokei_print.specs.ListedReports.{reports_in}
use Rattle.tokei_languages.specs.Names.{name_in}
use Rattle.tokei_print.proofs.Files.{no_rows}
use Rattle.tokei_print.proofs.file_rows.listed_files.Goals as goal

pub returns-clause-ok : goal.returns-clause-ok
returns-clause-ok c =
    let reports = reports_in c.args.reports.now in
    let alone = filter (has_row_alone c.args.compact) reports in
    let bytes : string_len c.in_ok-rows.rows ≡ length (string_bytes c.in_ok-rows.rows) = search rules in
    let first : c.is_empty-first.result ≡ (length alone == 0) =
    c.is_empty-first.ensures ∙ ap (λ n. n == 0) bytes ∙ ap (λ t. length t == 0) c.in_ok-rows.ensures ∙ no_rows c.args.layout.now alone in
    let blocks = λ (b : Bool). file_blocks c.args.layout.now (name_in c.args.language.table.now) c.args.language.inaccurate c.args.language.name.now b (with_blocks c.args.compact reports) in
    subst (λ b. IfOk c.joined.result (λ s. string_bytes s ≡ b))
    (ap₂ (λ x y. x ++ y) c.in_ok-rows.ensures (ap blocks first))
    (c.joined.ensures.ok _ c.file_blocks.ensures.ok)

pub returns-clause-overflow : goal.returns-clause-overflow
returns-clause-overflow c = λ t f. c.file_blocks.ensures.overflow (c.joined.ensures.overflow t) f
