use Rattle.std.proofs.Common.{subst}
use Rattle.tokei_table_search.specs.OpenerGroups.{IsIndexOf}
use Rattle.tokei_table_search.proofs.OpenerGroups.{none_on, none_passed}
use Rattle.tokei_table_search.proofs.ToldOpeners.{told_apart}
use Rattle.tokei_table_search.proofs.opener_index.OpenerIndex.next_told.Goals as goal

pub returns-then-text-at-gt-BLOCK-clause-none : goal.returns-then-text-at-gt-BLOCK-clause-none
returns-then-text-at-gt-BLOCK-clause-none c = λ k a h.
    told_apart c.args.tellers.now.alone c.args.tellers.now.firsts c.args.tellers.now.seconds c.args.self.now c.args.text.now k
    c.requires.told (c.told_end-at.ensures.passed k a h)

pub returns-clause-none : goal.returns-clause-none
returns-clause-none c =
    let firsts = c.self.inside.firsts.items in
    let groups = c.self.inside.groups.items in
    let index = subst (λ os. IsIndexOf os firsts groups) c.self.view_is c.self.invariant.0 in
    let passed = rw c.deref.ensures.value at c.first_among.ensures.passed in
    none_on c.args.self.now c.args.text.now c.args.from c.told_end-at.result c.first_among.result
    (λ k a h.
    told_apart c.args.tellers.now.alone c.args.tellers.now.firsts c.args.tellers.now.seconds c.args.self.now c.args.text.now k
    c.requires.told (c.told_end-at.ensures.passed k a h))
    (none_passed c.args.self.now firsts groups index c.args.text.now c.told_end-at.result c.first_among.result
    c.first_among.ensures.within passed)
