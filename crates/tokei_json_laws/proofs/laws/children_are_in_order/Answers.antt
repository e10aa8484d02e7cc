use Rattle.std.proofs.Common.{sym, subst}
use Rattle.std.specs.Ordering.{nat_cmp}
use Rattle.std.specs.List.Sorted.{IsStrictlySortedBy}
use Rattle.tokei_json_laws.specs.InOrder.{ListsAreInOrder}
use Rattle.tokei_languages.specs.Seen.{children_of, reports_of}
use Rattle.tokei_earlier.proofs.Insertions.{keys_of-seen}
use Rattle.tokei_json_laws.proofs.laws.children_are_in_order.Goals as goal

pub loop-language-preserved : goal.loop-language-preserved
loop-language-preserved c =
    λ h. c.loop-language.invariant (subst (λ es. ListsAreInOrder (children_of es)) (sym c.in-Some.ensures.steps) (c.reports_are_in_order.ensures, h))

pub returns-clause-lists : goal.returns-clause-lists
returns-clause-lists c =
    c.loop-language.invariant (subst (λ es. ListsAreInOrder (children_of es)) (sym c.in-None.ensures.steps.0) tt)

pub returns-clause-keys : goal.returns-clause-keys
returns-clause-keys c =
    subst (IsStrictlySortedBy nat_cmp) (sym (keys_of-seen reports_of c.args.children.now.entries)) c.iter-language-items.ensures.ordered
