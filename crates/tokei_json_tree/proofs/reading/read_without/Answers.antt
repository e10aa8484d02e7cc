use Rattle.std.proofs.Common.{IfSome, subst, rules}
use Rattle.json.specs.Value.{value_view}
use Rattle.tokei_json_tree.specs.Orderings.{IsOrderingOf}
use Rattle.tokei_json_tree.proofs.Emptied.{read_so}
use Rattle.tokei_json_tree.proofs.reading.read_without.Goals as goal

pub returns-then-is_plain : goal.returns-then-is_plain
returns-then-is_plain c =
    let h = c.in_ok-tree.ensures in
    let tree = value_view c.in_ok-tree.tree in
    read_so c.args.name.now c.args.text.now h.0 tree tree h.1 h.2 h.3 (c.is_plain.ensures (search rules))

pub returns-in-Some : goal.returns-in-Some
returns-in-Some c =
    let h = c.in_ok-tree.ensures in
    let tree = value_view c.in_ok-tree.tree in
    read_so c.args.name.now c.args.text.now h.0 tree (value_view c.in-Some.tree) h.1 h.2 h.3
    (subst (λ o. IfSome o (λ t. IsOrderingOf tree (value_view t))) c.in-Some.is c.in_ok-tree-2.ensures)
