use Rattle.std.proofs.Common.{sym, ap, ◌∙◌, ◌++◌, map, subst, ap₂, append-nil}
use Rattle.std.specs.Ordering.{nat_cmp}
use Rattle.std.specs.BTreeMap.{insert_entry}
use Rattle.std.specs.List.Sorted.{IsStrictlySortedBy}
use Rattle.tokei_languages.specs.Seen.{children_of, report_of, reports_of}
use Rattle.tokei_languages.proofs.Copying.{one_more}
use Rattle.tokei_languages.proofs.Entries.{keys_seen}
use Rattle.tokei_languages.proofs.copies.copied_children.Goals as goal

pub loop-language-preserved : goal.loop-language-preserved
loop-language-preserved c =
    let old = children_of c.loop-language.copies.entries in
    one_more old (children_of c.copy_at.new.copies.entries) c.in-Some.language.now (reports_of c.in-Some.reports.now)
    (children_of c.next.new.self) (children_of c.args.children.now.entries)
    (c.in_ok-copy_at.ensures.ok
    ∙ ap (λ rs. insert_entry nat_cmp old c.in-Some.language.now (map report_of rs)) c.deref.ensures.value)
    (ap (λ es. old ++ children_of es) (sym c.in-Some.ensures.steps) ∙ c.loop-language.invariant)
    (subst (IsStrictlySortedBy nat_cmp) (sym (keys_seen reports_of c.args.children.now.entries))
    c.iter-language-items.ensures.ordered)

pub loop-language-init : goal.loop-language-init
loop-language-init c =
    ap₂ (λ es fs. children_of es ++ children_of fs) c.new-copies.ensures.empty (c.into_iter-language-iterator.ensures.into_iter_gives ∙ c.iter-language-items.ensures.rest)

pub returns-clause-ok : goal.returns-clause-ok
returns-clause-ok c =
    sym (append-nil _) ∙ ap (λ es. children_of c.loop-language.copies.entries ++ children_of es) (sym c.in-None.ensures.steps.0) ∙ c.loop-language.invariant
