use Rattle.std.proofs.Common.{subst}
use Rattle.tokei_table_search.specs.OpenerGroups.{IsIndexOf}
use Rattle.tokei_table_search.proofs.OpenerGroups.{none_passed}
use Rattle.tokei_table_search.proofs.opener_index.OpenerIndex.next_near.Goals as goal

pub returns-in-Some-default-clause-none : goal.returns-in-Some-default-clause-none
returns-in-Some-default-clause-none c =
    let firsts = c.self.inside.firsts.items in
    let groups = c.self.inside.groups.items in
    let index = subst (λ os. IsIndexOf os firsts groups) c.self.view_is c.self.invariant.0 in
    let passed = rw c.deref.ensures.value at c.first_slotted_near.ensures.passed in
    none_passed c.args.self.now firsts groups index c.args.text.now c.args.from c.first_slotted_near.result
    c.first_slotted_near.ensures.within passed

pub returns-in-None-Some-clause-none : goal.returns-in-None-Some-clause-none
returns-in-None-Some-clause-none c =
    let firsts = c.self.inside.firsts.items in
    let groups = c.self.inside.groups.items in
    let index = subst (λ os. IsIndexOf os firsts groups) c.self.view_is c.self.invariant.0 in
    let passed = rw c.deref-in-None-Some.ensures.value at c.first_near.ensures.passed in
    none_passed c.args.self.now firsts groups index c.args.text.now c.args.from c.first_near.result
    c.first_near.ensures.within passed

pub returns-in-None-None-clause-none : goal.returns-in-None-None-clause-none
returns-in-None-None-clause-none c =
    let firsts = c.self.inside.firsts.items in
    let groups = c.self.inside.groups.items in
    let index = subst (λ os. IsIndexOf os firsts groups) c.self.view_is c.self.invariant.0 in
    let passed = rw c.deref-in-None-None.ensures.value at c.first_among.ensures.passed in
    none_passed c.args.self.now firsts groups index c.args.text.now c.args.from c.first_among.result
    c.first_among.ensures.within passed
