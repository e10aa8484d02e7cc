use Rattle.std.proofs.Common.{sym, ap, ◌∙◌}
use Rattle.serde_json.specs.Data.{no_members}
use Rattle.serde_json.specs.View.{members_view}
use Rattle.tokei_languages.specs.Names.{name_in}
use Rattle.tokei_json.specs.Document.{named_data, reports_data}
use Rattle.tokei_languages.specs.Seen.{entries_of, reports_of}
use Rattle.tokei_languages.specs.Summaries.{reports_by_language}
use Rattle.tokei_json.proofs.Made.{made_put}
use Rattle.tokei_json.proofs.write.reports_by_language_value.Goals as goal

pub loop-language-preserved : goal.loop-language-preserved
loop-language-preserved c =
    let l = c.loop-language in
    let rows = c.args.table.now in
    let left = c.next.new.self in
    let put_here = made_put c.reports_value-value.result (name_in rows c.in-Some.language.now) (reports_data rows (reports_of c.in-Some.value.now.reports))
    (members_view l.members.entries) (members_view c.put_named.new.members.entries)
    c.reports_value-value.ensures c.in_ok-put_named.ensures in
    l.invariant
    ∙ ap (λ es. named_data rows (reports_data rows) (reports_by_language (entries_of es)) (members_view l.members.entries)) c.in-Some.ensures.steps
    ∙ ap (named_data rows (reports_data rows) (reports_by_language (entries_of left))) (sym put_here)

pub loop-language-init : goal.loop-language-init
loop-language-init c =
    let rows = c.args.table.now in
    ap (λ es. named_data rows (reports_data rows) (reports_by_language es) no_members) (sym c.iter-language-items.ensures.entries)
    ∙ ap (λ es. named_data rows (reports_data rows) (reports_by_language (entries_of es)) no_members)
    (sym c.into_iter-language-iterator.ensures.into_iter_gives)
    ∙ ap (λ es. named_data rows (reports_data rows) (reports_by_language (entries_of c.into_iter-language-iterator.result)) (members_view es))
    (sym c.new-members.ensures.empty)

pub returns : goal.returns
returns c =
    let rows = c.args.table.now in
    let l = c.loop-language in
    sym (l.invariant
    ∙ ap (λ es. named_data rows (reports_data rows) (reports_by_language (entries_of es)) (members_view l.members.entries)) c.in-None.ensures.steps.0)
