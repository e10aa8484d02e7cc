use Rattle.std.proofs.Common.{◌∙◌, sym, ap, ℕ, option_map, BTreeMap}
use Rattle.tokei_languages.specs.Maps.{taken_back}
use Rattle.tokei_languages.specs.Seen.{language_of, entries_of}
use Rattle.tokei_languages.specs.TakenBack.{restored}
use Rattle.tokei_languages.specs.declared.language.Language.{Language}
use Rattle.tokei_languages.proofs.Entries.{take_seen, remove_seen, none_seen}
use Rattle.tokei_languages.proofs.merge.take_back.Goals as goal

pub returns-in-Some-get_mut : goal.returns-in-Some-get_mut
returns-in-Some-get_mut c =
    ap entries_of (c.get_mut.follows.holds c.take_back.new.self).0
    ∙ take_seen language_of (restored c.in-Some.before) c.args.languages.now.entries c.args.language
    c.in-Some-get_mut.there.now c.take_back.new.self (sym c.in-Some-get_mut.ensures.value)
    c.take_back.ensures
    ∙ ap (λ b. taken_back (option_map restored b) (entries_of c.args.languages.now.entries) c.args.language) (sym c.in-Some.is)

pub returns-in_default : goal.returns-in_default
returns-in_default c =
    ap (λ (m : BTreeMap ℕ Language). entries_of m.entries) c.get_mut.follows.holds-at-none
    ∙ none_seen language_of (option_map restored c.args.before) c.args.languages.now.entries c.args.language (sym c.in_default.ensures.value)

pub returns-in-None : goal.returns-in-None
returns-in-None c =
    ap entries_of c.remove-added.ensures.entries
    ∙ remove_seen language_of c.args.languages.now.entries c.args.language
    ∙ ap (λ b. taken_back (option_map restored b) (entries_of c.args.languages.now.entries) c.args.language) (sym c.in-None.is)
