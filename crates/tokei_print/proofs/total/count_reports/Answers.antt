use Rattle.std.proofs.Common.{◌≡◌, ap, sym, ◌∙◌, arith, length, rules}
use Rattle.std.proofs.lemmas.List.{length-map}
use Rattle.std.specs.Vec.{vec_len}
use Rattle.tokei_languages.specs.Seen.{entries_of, languages_of}
use Rattle.tokei_languages.specs.Summaries.{reports_by_language}
use Rattle.tokei_stats.specs.Reports.{report_of}
use Rattle.tokei_print.specs.Total.{report_count}
use Rattle.tokei_print.proofs.Counting.{counted, past}
use Rattle.tokei_print.proofs.total.count_reports.Goals as goal

pub loop-language-init : goal.loop-language-init
loop-language-init c =
    let e : report_count (reports_by_language (entries_of c.into_iter-language-iterator.result)) ≡ report_count (reports_by_language (languages_of c.args.languages.now)) =
    ap (λ es. report_count (reports_by_language (entries_of es))) c.into_iter-language-iterator.ensures.into_iter_gives
    ∙ ap (λ es. report_count (reports_by_language es)) c.iter-language-items.ensures.entries in
    omega arith

pub loop-language-preserved : goal.loop-language-preserved
loop-language-preserved c =
    let items = c.in-Some.language.now.reports.items in
    let length-items : vec_len c.in-Some.language.now.reports ≡ length items = search rules in
    counted c.loop-language.files _ _ c.len.result _ _ c.loop-language.invariant
    (ap (λ es. report_count (reports_by_language (entries_of es))) c.in-Some.ensures.steps)
    (c.len.ensures ∙ length-items ∙ sym (length-map items report_of)) _ c.in-Some-checked_add.ensures.1

pub returns-in-None-checked_add-clause-past : goal.returns-in-None-checked_add-clause-past
returns-in-None-checked_add-clause-past c =
    let items = c.in-Some.language.now.reports.items in
    let length-items : vec_len c.in-Some.language.now.reports ≡ length items = search rules in
    past c.loop-language.files _ _ c.len.result _ _ c.loop-language.invariant
    (ap (λ es. report_count (reports_by_language (entries_of es))) c.in-Some.ensures.steps)
    (c.len.ensures ∙ length-items ∙ sym (length-map items report_of)) c.in-None-checked_add.ensures
