use Rattle.std.proofs.Common.{◌≡◌, [], IfOk, sym, ap, ◌∙◌, subst, Vec, Global}
use Rattle.std.proofs.lemmas.Result.{IfOk-weaker}
use Rattle.serde_json.specs.Data.{no_members}
use Rattle.tokei_json.specs.Members.{member_value}
use Rattle.tokei_json.specs.ReportData.{named_data, reports_data}
use Rattle.tokei_json.specs.Tokens.{children_members, members_by, named}
use Rattle.tokei_languages.specs.Seen.{languages_of}
use Rattle.tokei_stats.specs.Reports.{reports_of}
use Rattle.tokei_stats.specs.declared.report.Report.{Report}
use Rattle.tokei_json.proofs.Naming.{named_members}
use Rattle.tokei_json.proofs.text.children_of.Goals as goal

pub returns-in-Total : goal.returns-in-Total
returns-in-Total c =
    let rows = c.args.counted.now.table.now in
    let es = languages_of c.args.counted.now.languages.now in
    subst (λ m. IfOk c.reports_by_name.result (λ r. children_members rows r.entries ≡ named_data rows (reports_data rows) (member_value es m).children no_members))
    (sym c.in-Total.is) c.reports_by_name.ensures

pub returns-in-Language : goal.returns-in-Language
returns-in-Language c =
    let rows = c.args.counted.now.table.now in
    let es = languages_of c.args.counted.now.languages.now in
    let f = λ (v : Vec Report Global). reports_data rows (reports_of v) in
    subst (λ m. IfOk c.by_name.result (λ r. children_members rows r.entries ≡ named_data rows (reports_data rows) (member_value es m).children no_members))
    (sym c.in-Language.is)
    (IfOk-weaker c.by_name.result _ _ (λ r e.
    ap (members_by f) (e ∙ ap (λ fs. named rows fs []) c.iter.ensures.rest)
    ∙ named_members rows reports_of (reports_data rows) c.in-Language.language.now.children.entries []) c.by_name.ensures)
