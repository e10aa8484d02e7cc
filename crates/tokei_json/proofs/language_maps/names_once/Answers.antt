use Rattle.std.proofs.Common.{◌≡◌, ◌<◌, List, length, not, refl, sym, ap, ◌∙◌, subst, arith}
use Rattle.json.specs.Value.{value_view, members_view}
use Rattle.serde_json.specs.Data.{Data, Members, object}
use Rattle.tokei_json_tree.specs.TreeData.{data_of, members_data}
use Rattle.tokei_table.specs.Row.{Row}
use Rattle.tokei_json.specs.LanguageMaps.{all_names, has_both, language_named, names_once}
use Rattle.tokei_json.proofs.FewNames.{few_once}
use Rattle.tokei_json_tree.proofs.Left.{failed, from, none_left, object_seen, passed}
use Rattle.tokei_json.proofs.language_maps.names_once.Goals as goal

names_asked : (rows : List Row) (d : Data) (ms : Members) → d ≡ object ms → names_once rows d ≡ all_names (λ k. not (has_both rows d (language_named rows k))) ms
names_asked rows d ms is = subst (λ e. names_once rows e ≡ all_names (λ k. not (has_both rows e (language_named rows k))) ms) (sym is) refl

pub returns-then-len-lt2 : goal.returns-then-len-lt2
returns-then-len-lt2 c =
    let members = c.in-Object.members in
    let few : length members.items < 2 = omega arith in
    sym (ap (λ j. names_once c.args.table.now (data_of j)) (object_seen _ _ members.items c.in-Object.is refl)
    ∙ few_once c.args.table.now members.items few)

pub loop-member-init : goal.loop-member-init
loop-member-init c = record { same = refl; ordered = tt }

pub loop-member-preserved : goal.loop-member-preserved
loop-member-preserved c =
    let rows = c.args.table.now in
    let n = from c.loop-member.invariant c.member-item.result c.loop-member-test.true c.member-item.is in
    let both = has_both rows (data_of (value_view c.args.value.now)) (language_named rows c.member-item.result.0.now) in
    passed n (not both) refl (ap not (sym c.has_both.ensures ∙ c.if-has_both.false)) tt

pub returns-then-has_both : goal.returns-then-has_both
returns-then-has_both c =
    let rows = c.args.table.now in
    let n = from c.loop-member.invariant c.member-item.result c.loop-member-test.true c.member-item.is in
    let both = has_both rows (data_of (value_view c.args.value.now)) (language_named rows c.member-item.result.0.now) in
    sym (names_asked rows _ (members_data (members_view c.deref-member-items.result.now))
    (ap data_of (object_seen _ _ _ c.in-Object.is c.deref-member-items.ensures.value))
    ∙ failed n (not both) refl (ap not (sym c.has_both.ensures ∙ c.if-has_both.true)))

pub returns-after-loop-member : goal.returns-after-loop-member
returns-after-loop-member c =
    sym (names_asked c.args.table.now _ (members_data (members_view c.deref-member-items.result.now))
    (ap data_of (object_seen _ _ _ c.in-Object.is c.deref-member-items.ensures.value))
    ∙ none_left c.loop-member.invariant c.loop-member-test.false)
