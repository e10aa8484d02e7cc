use Rattle.std.proofs.Common.{◌≡◌, ℕ, List, [], ◌∷◌, refl, sym, ap, ◌∙◌, ◌++◌, subst, append-nil}
use Rattle.std.specs.Map.{keys_of}
use Rattle.std.specs.Ordering.{nat_cmp}
use Rattle.std.specs.List.Sorted.{IsStrictlySortedBy}
use Rattle.tokei_options.specs.declared.sort.Sort.{Sort}
use Rattle.tokei_languages.specs.Seen.{entries_of, language_of}
use Rattle.tokei_languages.specs.Sorting.{sorted_by, sorted_languages}
use Rattle.tokei_languages.specs.declared.language.Language.{Language}
use Rattle.tokei_languages.proofs.Copying.{one_more}
use Rattle.tokei_languages.proofs.languages.Languages.with_sorted_reports.Goals as goal

keys_sorted : (sort : Sort) (es : List (ℕ × Language)) → keys_of (sorted_languages sort (entries_of es)) ≡ keys_of es
keys_sorted sort [] = refl
keys_sorted sort (e ∷ es) = ap (λ ks. e.0 ∷ ks) (keys_sorted sort es)

pub loop-language-preserved : goal.loop-language-preserved
loop-language-preserved c =
    let sort = c.args.sort in
    let old = entries_of c.loop-language.sorted.entries in
    one_more old (entries_of c.sort_at.new.sorted.entries) c.in-Some.language (sorted_by sort (language_of c.in-Some.value))
    (sorted_languages sort (entries_of c.next.new.self)) (sorted_languages sort (entries_of c.args.self.languages.entries))
    c.in_ok-sort_at.ensures.ok
    (ap (λ es. old ++ sorted_languages sort (entries_of es)) (sym c.in-Some.ensures.steps) ∙ c.loop-language.invariant)
    (subst (IsStrictlySortedBy nat_cmp) (sym (keys_sorted sort c.args.self.languages.entries))
    c.into_iter-language-iterator.ensures.into_iter_gives.5)

pub returns-clause-ok : goal.returns-clause-ok
returns-clause-ok c =
    sym (append-nil _)
    ∙ ap (λ es. entries_of c.loop-language.sorted.entries ++ sorted_languages c.args.sort (entries_of es)) (sym c.in-None.ensures.steps.0)
    ∙ c.loop-language.invariant
