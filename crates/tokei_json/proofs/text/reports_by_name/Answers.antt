use Rattle.std.proofs.Common.{◌≡◌, refl, sym, ap, ◌∙◌, rules, Vec, Global}
use Rattle.serde_json.specs.Data.{no_members, put}
use Rattle.tokei_languages.specs.Names.{name_in}
use Rattle.tokei_json.specs.Document.{named_data, reports_data}
use Rattle.tokei_json.specs.Tokens.{children_members, members_by}
use Rattle.tokei_json.proofs.Naming.{now_of, seen_by, insert_seen, insert_member}
use Rattle.tokei_languages.specs.Seen.{entries_of}
use Rattle.tokei_languages.specs.Summaries.{reports_by_language}
use Rattle.tokei_stats.specs.Reports.{reports_of}
use Rattle.tokei_stats.specs.declared.report.Report.{Report}
use Rattle.tokei_json.proofs.text.reports_by_name.Goals as goal

pub loop-language-preserved : goal.loop-language-preserved
loop-language-preserved c =
    let l = c.loop-language in
    let rows = c.args.counted.now.table.now in
    let f = λ (v : Vec Report Global). reports_data rows (reports_of v) in
    let here = seen_by now_of l.members.entries in
    let called : c.name_of.result.now ≡ name_in rows c.in-Some.language.now = search rules in
    let put_here : children_members rows c.insert.new.self.entries
    ≡ put (name_in rows c.in-Some.language.now) (reports_data rows (reports_of c.in-Some.value.now.reports)) (children_members rows l.members.entries) =
    ap (children_members rows) c.in-Ok.ensures.entries
    ∙ ap (members_by f) (insert_seen now_of l.members.entries c.name_of.result _)
    ∙ insert_member f here c.name_of.result.now _ ∙ rw called refl in
    l.invariant
    ∙ ap (λ es. named_data rows (reports_data rows) (reports_by_language (entries_of es)) (children_members rows l.members.entries)) c.in-Some.ensures.steps
    ∙ ap (named_data rows (reports_data rows) (reports_by_language (entries_of c.next.new.self))) (sym put_here)

pub loop-language-init : goal.loop-language-init
loop-language-init c =
    let rows = c.args.counted.now.table.now in
    ap (λ es. named_data rows (reports_data rows) (reports_by_language es) no_members) (sym c.iter-language-items.ensures.entries)
    ∙ ap (λ es. named_data rows (reports_data rows) (reports_by_language (entries_of es)) no_members) (sym c.into_iter-language-iterator.ensures.into_iter_gives)
    ∙ ap (λ es. named_data rows (reports_data rows) (reports_by_language (entries_of c.into_iter-language-iterator.result)) (children_members rows es))
    (sym c.new-members.ensures.empty)

pub returns : goal.returns
returns c =
    let l = c.loop-language in
    let rows = c.args.counted.now.table.now in
    sym (l.invariant
    ∙ ap (λ es. named_data rows (reports_data rows) (reports_by_language (entries_of es)) (children_members rows l.members.entries)) c.in-None.ensures.steps.0)
