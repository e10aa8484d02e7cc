use Rattle.std.proofs.Common.{◌∙◌, sym, ap, ℕ, map, take, Vec, Global, BTreeMap}
use Rattle.std.proofs.lemmas.List.{take-map}
use Rattle.tokei_languages.specs.TakenBack.{first}
use Rattle.tokei_languages.specs.Maps.{taken_back}
use Rattle.tokei_languages.specs.Seen.{children_of, reports_of, report_of}
use Rattle.tokei_stats.specs.declared.report.Report.{Report}
use Rattle.tokei_languages.proofs.Entries.{take_seen, remove_seen, none_seen}
use Rattle.tokei_languages.proofs.children.take_back.Goals as goal

pub returns-in-Some-get_mut : goal.returns-in-Some-get_mut
returns-in-Some-get_mut c =
    ap children_of (c.get_mut.follows.holds c.truncate.new.self).0
    ∙ take_seen reports_of (take c.in-Some.count) c.args.children.now.entries c.args.language c.in-Some-get_mut.there.now c.truncate.new.self (sym c.in-Some-get_mut.ensures.value)
    (ap (map report_of) c.truncate.ensures.items ∙ sym (take-map report_of c.in-Some.count c.in-Some-get_mut.there.now.items))
    ∙ ap (λ b. taken_back (first b) (children_of c.args.children.now.entries) c.args.language) (sym c.in-Some.is)

pub returns-in_default : goal.returns-in_default
returns-in_default c =
    ap (λ (m : BTreeMap ℕ (Vec Report Global)). children_of m.entries) c.get_mut.follows.holds-at-none
    ∙ none_seen reports_of (first c.args.before) c.args.children.now.entries c.args.language (sym c.in_default.ensures.value)

pub returns-in-None : goal.returns-in-None
returns-in-None c =
    ap children_of c.remove-added.ensures.entries
    ∙ remove_seen reports_of c.args.children.now.entries c.args.language
    ∙ ap (λ b. taken_back (first b) (children_of c.args.children.now.entries) c.args.language) (sym c.in-None.is)
