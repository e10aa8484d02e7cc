use Rattle.std.proofs.Common.{◌≡◌, ◌++◌, [], if◌then◌else◌, Bool, IfOk, map, string_bytes, sym, ap, ap₂, subst, ◌∙◌}
use Rattle.tokei_languages.specs.Seen.{language_of}
use Rattle.tokei_stats.specs.Reports.{report_of}
use Rattle.tokei_print.specs.FileRows.{listed_files, with_blocks}
use Rattle.tokei_print.specs.FilesFit.{FileBlocksFit}
use Rattle.tokei_print.specs.ListedReports.{reports_in}
use Rattle.tokei_print.specs.NameOrder.{in_order}
use Rattle.tokei_languages.specs.Names.{name_in}
use Rattle.tokei_print.specs.Rules.{subrow}
use Rattle.tokei_print.proofs.results.files_block.Goals as goal

pub returns-clause-ok : goal.returns-clause-ok
returns-clause-ok c =
    let layout = c.args.layout.now in
    let language = language_of c.args.language.now in
    let files = listed_files layout (name_in c.args.showing.table.now) c.args.showing.compact language.inaccurate c.args.name.now in
    let text = subrow layout.columns ++ files (in_order c.args.showing.sorted language.reports) in
    subst (λ b. IfOk c.joined.result (λ s. string_bytes s ≡ b))
    (ap₂ (λ x y. x ++ y) (c.in_ok-subrow.ensures.ok ∙ c.subrow.ensures)
    (ap (λ rs. files (reports_in rs)) c.deref-2.ensures.value
    ∙ ap files (c.in_ok-reports.ensures ∙ ap (λ rs. in_order c.args.showing.sorted (map report_of rs)) c.deref.ensures.value))
    ∙ ap (λ (v : Bool). if v then text else []) (sym c.if-not-layout.false))
    (c.joined.ensures.ok _ c.listed_files.ensures.ok)

pub returns-clause-overflow : goal.returns-clause-overflow
returns-clause-overflow c = λ t f.
    c.listed_files.ensures.overflow (c.joined.ensures.overflow t)
    (subst (λ rs. FileBlocksFit (with_blocks c.args.showing.compact rs))
    (sym (ap reports_in c.deref-2.ensures.value ∙ c.in_ok-reports.ensures ∙ ap (λ rs. in_order c.args.showing.sorted (map report_of rs)) c.deref.ensures.value))
    (f.files c.if-not-layout.false))
