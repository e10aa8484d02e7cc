use Rattle.std.proofs.Common.{sym, ap, ◌∙◌, ◌++◌, ◌∷◌, [], subst, string_bytes, ap₂, append-nil}
use Rattle.std.specs.Ordering.{nat_cmp}
use Rattle.std.specs.List.Sorted.{IsStrictlySortedBy}
use Rattle.tokei_stats.specs.Seen.{blobs_of, entries_of, stats_of}
use Rattle.tokei_languages.specs.Merging.{blob_reports}
use Rattle.tokei_languages.specs.Seen.{children_of}
use Rattle.tokei_languages.proofs.BlobReports.{keys_reported}
use Rattle.tokei_languages.proofs.Copying.{one_more}
use Rattle.tokei_languages.proofs.copies.blob_reports.Goals as goal

pub loop-language-preserved : goal.loop-language-preserved
loop-language-preserved c =
    let name = string_bytes c.args.name.now in
    let old = children_of c.loop-language.children.entries in
    one_more old (children_of c.report_at.new.children.entries) c.in-Some.language.now
    (record { name = name; stats = stats_of c.in-Some.stats.now } ∷ [])
    (blob_reports name (blobs_of (entries_of c.next.new.self)))
    (blob_reports name (blobs_of (entries_of c.args.blobs.now.entries)))
    c.in_ok-report_at.ensures.ok
    (ap (λ es. old ++ blob_reports name (blobs_of (entries_of es))) (sym c.in-Some.ensures.steps)
    ∙ c.loop-language.invariant)
    (subst (IsStrictlySortedBy nat_cmp) (sym (keys_reported name c.args.blobs.now.entries))
    c.iter-language-items.ensures.ordered)

pub loop-language-init : goal.loop-language-init
loop-language-init c =
    ap₂ (λ es fs. children_of es ++ blob_reports (string_bytes c.args.name.now) (blobs_of (entries_of fs)))
    c.new-children.ensures.empty (c.into_iter-language-iterator.ensures.into_iter_gives ∙ c.iter-language-items.ensures.rest)

pub returns-clause-ok : goal.returns-clause-ok
returns-clause-ok c =
    sym (append-nil _)
    ∙ ap (λ es. children_of c.loop-language.children.entries ++ blob_reports (string_bytes c.args.name.now) (blobs_of (entries_of es))) (sym c.in-None.ensures.steps.0)
    ∙ c.loop-language.invariant
