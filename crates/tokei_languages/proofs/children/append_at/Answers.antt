use Rattle.std.proofs.Common.{◌∙◌, sym, ap, ℕ, map, take, ◌++◌, None, Some, Vec, Global, BTreeMap, nat_cmp}
use Rattle.std.specs.BTreeMap.{insert_entry}
use Rattle.std.proofs.lemmas.List.{map-append}
use Rattle.tokei_languages.specs.TakenBack.{first}
use Rattle.tokei_languages.specs.Maps.{taken_back}
use Rattle.tokei_languages.specs.Seen.{children_of, reports_of, report_of}
use Rattle.tokei_stats.specs.declared.report.Report.{Report}
use Rattle.tokei_languages.proofs.Entries.{insert_seen, insert_taken_back, set_seen, same_seen, set_taken_back}
use Rattle.tokei_languages.proofs.Refusals.{on_err}
use Rattle.tokei_languages.proofs.TakingBack.{first_of}
use Rattle.tokei_languages.proofs.children.append_at.Goals as goal

pub returns-in_err-append-clause-err : goal.returns-in_err-append-clause-err
returns-in_err-append-clause-err c =
    on_err c.from_residual.result (ap children_of (c.get_mut.follows.holds c.append.new.self).0
    ∙ same_seen reports_of c.args.children.now.entries c.args.language c.in-Some.there.now c.append.new.self (sym c.in-Some.ensures.value) (ap (map report_of) c.in_err-append.ensures.items))

pub returns-in-Some-clause-ok : goal.returns-in-Some-clause-ok
returns-in-Some-clause-ok c =
    ap children_of (c.get_mut.follows.holds c.append.new.self).0
    ∙ set_seen reports_of (λ rs. rs ++ reports_of c.args.reports) (reports_of c.args.reports)
    c.args.children.now.entries c.args.language c.in-Some.there.now c.append.new.self
    c.in-Some.ensures.ordered (sym c.in-Some.ensures.value)
    (ap (map report_of) c.in_ok-append.ensures.items ∙ map-append report_of c.in-Some.there.now.items c.args.reports.items)

pub returns-in-Some-clause-back : goal.returns-in-Some-clause-back
returns-in-Some-clause-back c =
    ap (λ es. taken_back (first (Some c.len-before.result)) (children_of es) c.args.language) (c.get_mut.follows.holds c.append.new.self).0
    ∙ set_taken_back reports_of (take c.len-before.result) c.args.children.now.entries c.args.language c.in-Some.there.now c.append.new.self (sym c.in-Some.ensures.value)
    (first_of c.in-Some.there.now c.append.new.self c.args.reports c.len-before.result c.in_ok-append.ensures.items (sym c.in-Some.there.now.ok.0 ∙ sym c.len-before.ensures))

pub returns-clause-ok : goal.returns-clause-ok
returns-clause-ok c =
    ap children_of (c.in_ok-_none.ensures.entries ∙ ap (λ (m : BTreeMap ℕ (Vec Report Global)). insert_entry nat_cmp m.entries c.args.language c.args.reports) c.get_mut.follows.holds-at-none)
    ∙ insert_seen reports_of (λ rs. rs ++ reports_of c.args.reports) c.args.children.now.entries c.args.language c.args.reports (sym c.in_default.ensures.value)

pub returns-clause-back : goal.returns-clause-back
returns-clause-back c =
    ap (λ es. taken_back None (children_of es) c.args.language)
    (c.in_ok-_none.ensures.entries
    ∙ ap
    (λ (m : BTreeMap ℕ (Vec Report Global)). insert_entry nat_cmp m.entries
    c.args.language c.args.reports)
    c.get_mut.follows.holds-at-none)
    ∙ insert_taken_back reports_of c.args.children.now.entries c.args.language c.args.reports (sym c.in_default.ensures.value)
