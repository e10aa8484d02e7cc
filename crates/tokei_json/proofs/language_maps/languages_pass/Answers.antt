use Rattle.std.proofs.Common.{◌≡◌, ◌||◌, true, false, refl, sym, ap, ◌∙◌, subst, bytes_eq, codes}
use Rattle.json.specs.Value.{members_view, value_view}
use Rattle.tokei_json_tree.specs.TreeData.{data_of, members_data}
use Rattle.tokei_json.specs.LanguageMaps.{language_passes, languages_pass, passes}
use Rattle.tokei_json_tree.proofs.Left.{failed, from, none_left, passed}
use Rattle.tokei_json.proofs.language_maps.languages_pass.Goals as goal

pub language_passes-requires : goal.language_passes-requires
language_passes-requires c = (from c.loop-member.invariant c.member-item.result c.loop-member-test.true c.member-item.is).ordered.0

pub loop-member-preserved-then-eq : goal.loop-member-preserved-then-eq
loop-member-preserved-then-eq c =
    let x = c.member-item.result in
    let n = from c.loop-member.invariant x c.loop-member-test.true c.member-item.is in
    let test = language_passes (passes c.args.table.now c.args.test) (data_of (value_view x.1)) in
    passed n (bytes_eq x.0.now (codes "Total") || test) refl (ap (λ a. a || test) (sym c.eq.ensures ∙ c.if-eq.true)) n.ordered.1

pub loop-member-preserved : goal.loop-member-preserved
loop-member-preserved c =
    let x = c.member-item.result in
    let n = from c.loop-member.invariant x c.loop-member-test.true c.member-item.is in
    let test = language_passes (passes c.args.table.now c.args.test) (data_of (value_view x.1)) in
    passed n (bytes_eq x.0.now (codes "Total") || test) refl
    (ap (λ a. a || test) (sym c.eq.ensures ∙ c.if-eq.false) ∙ sym c.language_passes.ensures ∙ c.if-not-language_passes.false) n.ordered.1

pub returns-then-not-language_passes : goal.returns-then-not-language_passes
returns-then-not-language_passes c =
    let x = c.member-item.result in
    let n = from c.loop-member.invariant x c.loop-member-test.true c.member-item.is in
    let test = language_passes (passes c.args.table.now c.args.test) (data_of (value_view x.1)) in
    sym (subst (λ ys. languages_pass (passes c.args.table.now c.args.test) (members_data (members_view ys)) ≡ false) c.deref-member-items.ensures.value
    (failed n (bytes_eq x.0.now (codes "Total") || test) refl
    (ap (λ a. a || test) (sym c.eq.ensures ∙ c.if-eq.false) ∙ sym c.language_passes.ensures ∙ c.if-not-language_passes.true)))

pub returns : goal.returns
returns c =
    sym (subst (λ ys. languages_pass (passes c.args.table.now c.args.test) (members_data (members_view ys)) ≡ true) c.deref-member-items.ensures.value
    (none_left c.loop-member.invariant c.loop-member-test.false))
