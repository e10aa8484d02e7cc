use Rattle.std.proofs.Common.{IfSome, subst, sym, ◌∙◌, rules}
use Rattle.json.specs.Value.{value_view}
use Rattle.tokei_json_tree.specs.Orderings.{IsOrderingOf}
use Rattle.tokei_json_tree.proofs.reading.read.Goals as goal

pub returns-then-is_plain-clause-tree : goal.returns-then-is_plain-clause-tree
returns-then-is_plain-clause-tree c =
    let h = c.is_plain.ensures (search rules) in
    record {
      reads = c.in_ok-tree.ensures.tree ∙ h.reads;
      ordered = h.ordered;
    }

pub returns-then-is_plain-clause-fraction : goal.returns-then-is_plain-clause-fraction
returns-then-is_plain-clause-fraction c =
    let h = c.is_plain.ensures (search rules) in
    sym h.whole

pub returns-in-Some-clause-tree : goal.returns-in-Some-clause-tree
returns-in-Some-clause-tree c =
    let h = subst (λ o. IfSome o (λ t. IsOrderingOf (value_view c.in_ok-tree.tree) (value_view t))) c.in-Some.is c.in_ok-tree-2.ensures in
    record {
      reads = c.in_ok-tree.ensures.tree ∙ h.reads;
      ordered = h.ordered;
    }

pub returns-in-Some-clause-fraction : goal.returns-in-Some-clause-fraction
returns-in-Some-clause-fraction c =
    let h = subst (λ o. IfSome o (λ t. IsOrderingOf (value_view c.in_ok-tree.tree) (value_view t))) c.in-Some.is c.in_ok-tree-2.ensures in
    sym h.whole
