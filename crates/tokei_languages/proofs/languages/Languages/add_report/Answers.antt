use Rattle.std.proofs.Common.{◌≡◌, sym, ap, ◌∙◌, ℕ, Result, Ok, Err, OnOk, OnErr, BTreeMap}
use Rattle.std.specs.Ordering.{nat_cmp}
use Rattle.std.specs.BTreeMap.{insert_entry}
use Rattle.tokei_languages.specs.Maps.{put_at}
use Rattle.tokei_languages.specs.Merging.{with_report}
use Rattle.tokei_languages.specs.Seen.{entries_of, language_of, report_of}
use Rattle.tokei_languages.specs.Values.{LanguageValue, empty_language}
use Rattle.tokei_languages.specs.declared.language.Language.{Language}
use Rattle.tokei_languages.proofs.Entries.{insert_seen, set_seen, same_seen}
use Rattle.tokei_languages.proofs.languages.Languages.add_report.Goals as goal

on_ok : {A B : Type 0} {P Q : Type 0} (r : Result A B) → OnOk r P → (P → Q) → OnOk r Q
on_ok (Ok x) h f = f h
on_ok (Err e) h f = tt

on_err : {A B : Type 0} {P Q : Type 0} (r : Result A B) → OnErr r P → (P → Q) → OnErr r Q
on_err (Ok x) h f = tt
on_err (Err e) h f = f h

pub returns-in-Some-clause-ok : goal.returns-in-Some-clause-ok
returns-in-Some-clause-ok c =
    let r = report_of c.args.report in
    on_ok c.add_report.result c.add_report.ensures.ok (λ h.
    ap entries_of (c.get_mut.follows.holds c.add_report.new.self).0
    ∙ set_seen language_of (λ s. with_report s r) (with_report empty_language r) c.args.self.now.languages.entries c.args.language
    c.in-Some.there.now c.add_report.new.self c.in-Some.ensures.ordered (sym c.in-Some.ensures.value) h)

pub returns-in-Some-clause-err : goal.returns-in-Some-clause-err
returns-in-Some-clause-err c =
    on_err c.add_report.result c.add_report.ensures.err (λ h.
    ap entries_of (c.get_mut.follows.holds c.add_report.new.self).0
    ∙ same_seen language_of c.args.self.now.languages.entries c.args.language c.in-Some.there.now c.add_report.new.self (sym c.in-Some.ensures.value) h)

pub returns-clause-ok : goal.returns-clause-ok
returns-clause-ok c =
    let r = report_of c.args.report in
    let first : language_of c.add_report-2.new.self ≡ with_report empty_language r = c.in_ok-add_report.ensures.ok ∙ ap (λ s. with_report s r) c.new-first.ensures in
    ap entries_of (c.in_ok-_none.ensures.entries ∙ ap (λ (m : BTreeMap ℕ Language). insert_entry nat_cmp m.entries c.args.language c.add_report-2.new.self) c.get_mut.follows.holds-at-none)
    ∙ insert_seen language_of (λ s. with_report s r) c.args.self.now.languages.entries c.args.language c.add_report-2.new.self (sym c.in_default.ensures.value)
    ∙ ap (λ s. put_at (λ t. with_report t r) s (entries_of c.args.self.now.languages.entries) c.args.language) first
