use Rattle.std.proofs.Common.{◌≡◌, sym, ap, ◌∙◌, ℕ, BTreeMap}
use Rattle.std.specs.Ordering.{nat_cmp}
use Rattle.std.specs.BTreeMap.{insert_entry}
use Rattle.tokei_languages.specs.Maps.{put_at}
use Rattle.tokei_languages.specs.Seen.{entries_of, language_of}
use Rattle.tokei_languages.specs.Values.{marked, empty_language}
use Rattle.tokei_languages.specs.declared.language.Language.{Language}
use Rattle.tokei_languages.proofs.Entries.{insert_seen, set_seen}
use Rattle.tokei_languages.proofs.languages.Languages.mark_inaccurate.Goals as goal

pub returns-in-Some-clause-ok : goal.returns-in-Some-clause-ok
returns-in-Some-clause-ok c =
    ap entries_of (c.get_mut.follows.holds c.mark_inaccurate.new.self).0
    ∙ set_seen language_of marked (marked empty_language) c.args.self.now.languages.entries c.args.language
    c.in-Some.there.now c.mark_inaccurate.new.self c.in-Some.ensures.ordered (sym c.in-Some.ensures.value) c.mark_inaccurate.ensures

pub returns-clause-ok : goal.returns-clause-ok
returns-clause-ok c =
    let first : language_of c.mark_inaccurate-2.new.self ≡ marked empty_language = c.mark_inaccurate-2.ensures ∙ ap marked c.new-first.ensures in
    ap entries_of (c.in_ok-_none.ensures.entries ∙ ap (λ (m : BTreeMap ℕ Language). insert_entry nat_cmp m.entries c.args.language c.mark_inaccurate-2.new.self) c.get_mut.follows.holds-at-none)
    ∙ insert_seen language_of marked c.args.self.now.languages.entries c.args.language c.mark_inaccurate-2.new.self (sym c.in_default.ensures.value)
    ∙ ap (λ s. put_at marked s (entries_of c.args.self.now.languages.entries) c.args.language) first
