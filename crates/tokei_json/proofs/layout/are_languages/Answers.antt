use Rattle.std.proofs.Common.{◌≡◌, ◌||◌, true, false, refl, sym, ap, ◌∙◌, subst, bytes_eq, codes}
use Rattle.json.specs.Value.{members_view, value_view}
use Rattle.tokei_json_tree.specs.TreeData.{data_of, members_data}
use Rattle.tokei_json.specs.Layout.{are_languages, is_language}
use Rattle.tokei_json_tree.proofs.Left.{failed, from, none_left, passed}
use Rattle.tokei_json.proofs.layout.are_languages.Goals as goal

pub is_language-requires : goal.is_language-requires
is_language-requires c = (from c.loop-member.invariant c.member-item.result c.loop-member-test.true c.member-item.is).ordered.0

pub loop-member-preserved-then-eq : goal.loop-member-preserved-then-eq
loop-member-preserved-then-eq c =
    let x = c.member-item.result in
    let n = from c.loop-member.invariant x c.loop-member-test.true c.member-item.is in
    let test = is_language (data_of (value_view x.1)) in
    passed n (bytes_eq x.0.now (codes "Total") || test) refl (ap (λ a. a || test) (sym c.eq.ensures ∙ c.if-eq.true)) n.ordered.1

pub loop-member-preserved : goal.loop-member-preserved
loop-member-preserved c =
    let x = c.member-item.result in
    let n = from c.loop-member.invariant x c.loop-member-test.true c.member-item.is in
    let test = is_language (data_of (value_view x.1)) in
    passed n (bytes_eq x.0.now (codes "Total") || test) refl
    (ap (λ a. a || test) (sym c.eq.ensures ∙ c.if-eq.false) ∙ sym c.is_language.ensures ∙ c.if-not-is_language.false) n.ordered.1

pub returns-then-not-is_language : goal.returns-then-not-is_language
returns-then-not-is_language c =
    let x = c.member-item.result in
    let n = from c.loop-member.invariant x c.loop-member-test.true c.member-item.is in
    let test = is_language (data_of (value_view x.1)) in
    sym (subst (λ ys. are_languages (members_data (members_view ys)) ≡ false) c.deref-member-items.ensures.value
    (failed n (bytes_eq x.0.now (codes "Total") || test) refl
    (ap (λ a. a || test) (sym c.eq.ensures ∙ c.if-eq.false) ∙ sym c.is_language.ensures ∙ c.if-not-is_language.true)))

pub returns : goal.returns
returns c =
    sym (subst (λ ys. are_languages (members_data (members_view ys)) ≡ true) c.deref-member-items.ensures.value
    (none_left c.loop-member.invariant c.loop-member-test.false))
