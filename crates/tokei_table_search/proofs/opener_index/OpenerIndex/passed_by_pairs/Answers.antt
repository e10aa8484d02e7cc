use Rattle.std.proofs.Common.{◌∙◌, ◌+◌, subst, sym, arith}
use Rattle.tokei_table_search.specs.NearBytes.{AreNear}
use Rattle.tokei_table_search.specs.OpenerGroups.{IsIndexOf}
use Rattle.tokei_table_search.proofs.OpenerGroups.{pair_apart, none_on, none_behind_one}
use Rattle.tokei_table_search.proofs.opener_index.OpenerIndex.passed_by_pairs.Goals as goal

pub returns-then-to-at-clause-none : goal.returns-then-to-at-clause-none
returns-then-to-at-clause-none c =
    let firsts = c.self.inside.firsts.items in
    let groups = c.self.inside.groups.items in
    let index = subst (λ os. IsIndexOf os firsts groups) c.self.view_is c.self.invariant.0 in
    let near = subst (λ n. AreNear n firsts) c.in-Some-Some.is-0 c.self.invariant.1.0 in
    none_on c.args.self.now c.args.text.now c.args.from c.loop-at.at c.next_pair-at.result c.loop-at.invariant.none
    (λ k a h. pair_apart c.args.self.now firsts groups index c.args.group.now c.in-Some-Some.near c.in-Some-Some.seconds c.args.byte
    near c.in-Some-Some.ensures.holds c.requires.group
    c.args.text.now k (omega (arith, h, c.next_pair-at.ensures.inside (omega (arith, a, h)))) ((c.type_inv.text (k + 1)).fits) (c.next_pair-at.ensures.passed k a h))

pub loop-at-preserved : goal.loop-at-preserved
loop-at-preserved c =
    let firsts = c.self.inside.firsts.items in
    let groups = c.self.inside.groups.items in
    let index = subst (λ os. IsIndexOf os firsts groups) c.self.view_is c.self.invariant.0 in
    let near = subst (λ n. AreNear n firsts) c.in-Some-Some.is-0 c.self.invariant.1.0 in
    let before = none_on c.args.self.now c.args.text.now c.args.from c.loop-at.at c.next_pair-at.result c.loop-at.invariant.none
    (λ k a h. pair_apart c.args.self.now firsts groups index c.args.group.now c.in-Some-Some.near c.in-Some-Some.seconds c.args.byte
    near c.in-Some-Some.ensures.holds c.requires.group
    c.args.text.now k (omega (arith, h, c.next_pair-at.ensures.inside (omega (arith, a, h)))) ((c.type_inv.text (k + 1)).fits) (c.next_pair-at.ensures.passed k a h)) in
    record {
      low = omega (arith, c.loop-at.invariant.low, c.next_pair-at.ensures.low);
      within = omega (arith, c.if-to-at.false, c.requires.inside);
      none = none_behind_one c.args.self.now c.args.text.now c.args.from c.next_pair-at.result before (sym c.stands_by_group.ensures ∙ c.if-stands_by_group.false);
    }
