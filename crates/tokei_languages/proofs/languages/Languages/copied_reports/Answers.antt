use Rattle.std.proofs.Common.{◌≡◌, ℕ, List, [], ◌∷◌, refl, sym, ap, ◌∙◌, ◌++◌, map, subst, ap₂, append-nil}
use Rattle.std.specs.BTreeMap.{insert_entry}
use Rattle.std.specs.Map.{keys_of}
use Rattle.std.specs.Ordering.{nat_cmp}
use Rattle.std.specs.List.Sorted.{IsStrictlySortedBy}
use Rattle.tokei_languages.specs.Seen.{children_of, entries_of, language_of, report_of}
use Rattle.tokei_languages.specs.Summaries.{reports_by_language}
use Rattle.tokei_languages.specs.declared.language.Language.{Language}
use Rattle.tokei_languages.proofs.Copying.{one_more}
use Rattle.tokei_languages.proofs.languages.Languages.copied_reports.Goals as goal

keys_reported : (es : List (ℕ × Language)) → keys_of (reports_by_language (entries_of es)) ≡ keys_of es
keys_reported [] = refl
keys_reported (e ∷ es) = ap (λ ks. e.0 ∷ ks) (keys_reported es)

pub loop-language-preserved : goal.loop-language-preserved
loop-language-preserved c =
    let old = children_of c.loop-language.copies.entries in
    one_more old (children_of c.copy_at.new.copies.entries) c.in-Some.language.now
    (language_of c.in-Some.value.now).reports
    (reports_by_language (entries_of c.next.new.self)) (reports_by_language (entries_of c.args.self.now.languages.entries))
    (c.in_ok-copy_at.ensures.ok
    ∙ ap (λ rs. insert_entry nat_cmp old c.in-Some.language.now (map report_of rs)) c.deref.ensures.value)
    (ap (λ es. old ++ reports_by_language (entries_of es)) (sym c.in-Some.ensures.steps) ∙ c.loop-language.invariant)
    (subst (IsStrictlySortedBy nat_cmp) (sym (keys_reported c.args.self.now.languages.entries))
    c.iter-language-items.ensures.ordered)

pub loop-language-init : goal.loop-language-init
loop-language-init c =
    ap₂ (λ es fs. children_of es ++ reports_by_language (entries_of fs))
    c.new-copies.ensures.empty (c.into_iter-language-iterator.ensures.into_iter_gives ∙ c.iter-language-items.ensures.rest)

pub returns-clause-ok : goal.returns-clause-ok
returns-clause-ok c =
    sym (append-nil _)
    ∙ ap (λ es. children_of c.loop-language.copies.entries ++ reports_by_language (entries_of es)) (sym c.in-None.ensures.steps.0)
    ∙ c.loop-language.invariant
