use Rattle.std.proofs.Common.{◌≡◌, ◌∙◌, sym, ap, ℕ, None, Some, option_map, subst, Err, BTreeMap, nat_cmp}
use Rattle.std.specs.BTreeMap.{insert_entry}
use Rattle.std.proofs.lemmas.Result.{err_from_is_err_and}
use Rattle.tokei_languages.specs.Merging.{merged_language, FitAt}
use Rattle.tokei_stats.specs.declared.error.CountError.TheVariants.{Overflow}
use Rattle.tokei_languages.specs.Maps.{taken_back}
use Rattle.tokei_languages.specs.Seen.{language_of, entries_of}
use Rattle.tokei_languages.specs.TakenBack.{restored}
use Rattle.tokei_languages.specs.declared.language.Language.{Language}
use Rattle.tokei_languages.proofs.Entries.{at_seen, insert_seen, insert_taken_back, set_seen, same_seen, set_taken_back}
use Rattle.tokei_languages.proofs.Refusals.{on_err}
use Rattle.tokei_languages.proofs.merge.add_at.Goals as goal

pub returns-in_err-before-clause-err : goal.returns-in_err-before-clause-err
returns-in_err-before-clause-err c =
    on_err c.from_residual.result (ap entries_of (c.get_mut.follows.holds c.grow.new.self).0
    ∙ same_seen language_of c.args.languages.now.entries c.args.language c.in-Some.there.now c.grow.new.self (sym c.in-Some.ensures.value) c.in_err-before.ensures.err)

pub returns-in-Some-clause-ok : goal.returns-in-Some-clause-ok
returns-in-Some-clause-ok c =
    ap entries_of (c.get_mut.follows.holds c.grow.new.self).0
    ∙ set_seen language_of (λ s. merged_language s (language_of c.args.more))
    (language_of c.args.more) c.args.languages.now.entries c.args.language c.in-Some.there.now
    c.grow.new.self c.in-Some.ensures.ordered (sym c.in-Some.ensures.value)
    c.in_ok-before.ensures.ok

pub returns-in-Some-clause-back : goal.returns-in-Some-clause-back
returns-in-Some-clause-back c =
    ap (λ es. taken_back (Some (restored c.in_ok-before.before)) (entries_of es) c.args.language) (c.get_mut.follows.holds c.grow.new.self).0
    ∙ set_taken_back language_of (restored c.in_ok-before.before) c.args.languages.now.entries
    c.args.language c.in-Some.there.now c.grow.new.self (sym c.in-Some.ensures.value)
    c.in_ok-before.ensures.back

pub returns-clause-ok : goal.returns-clause-ok
returns-clause-ok c =
    ap entries_of (c.in_ok-_none.ensures.entries ∙ ap (λ (m : BTreeMap ℕ Language). insert_entry nat_cmp m.entries c.args.language c.args.more) c.get_mut.follows.holds-at-none)
    ∙ insert_seen language_of (λ s. merged_language s (language_of c.args.more)) c.args.languages.now.entries c.args.language c.args.more (sym c.in_default.ensures.value)

pub returns-clause-back : goal.returns-clause-back
returns-clause-back c =
    ap (λ es. taken_back None (entries_of es) c.args.language)
    (c.in_ok-_none.ensures.entries
    ∙ ap
    (λ (m : BTreeMap ℕ Language). insert_entry nat_cmp m.entries c.args.language
    c.args.more)
    c.get_mut.follows.holds-at-none)
    ∙ insert_taken_back language_of c.args.languages.now.entries c.args.language c.args.more (sym c.in_default.ensures.value)

pub returns-in_err-before-clause-overflow : goal.returns-in_err-before-clause-overflow
returns-in_err-before-clause-overflow c =
    let p = err_from_is_err_and c.from_residual.result c.from_residual.ensures.1 in
    rw (p.1, p.2) (λ is fit.
    let same : c.in_err-before.field-0.0 ≡ Overflow = cc in
    c.in_err-before.ensures.overflow (ap Err same)
    (subst (λ o. FitAt o (language_of c.args.more)) (at_seen language_of c.args.language c.args.languages.now.entries ∙ ap (option_map language_of) (sym c.in-Some.ensures.value)) fit))

pub returns-in-Some-clause-fits : goal.returns-in-Some-clause-fits
returns-in-Some-clause-fits c =
    subst (λ o. FitAt o (language_of c.args.more))
    (sym (at_seen language_of c.args.language c.args.languages.now.entries
    ∙ ap (option_map language_of) (sym c.in-Some.ensures.value)))
    c.in_ok-before.ensures.fits

pub returns-clause-fits : goal.returns-clause-fits
returns-clause-fits c =
    subst (λ o. FitAt o (language_of c.args.more)) (sym (at_seen language_of c.args.language c.args.languages.now.entries ∙ ap (option_map language_of) (sym c.in_default.ensures.value))) tt
