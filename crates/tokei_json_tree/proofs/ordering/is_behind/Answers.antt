use Rattle.std.proofs.Common.{◌≡◌, ◌-◌, suc, take, subst, sym, ◌∙◌, arith}
use Rattle.json.specs.Value.{members_view}
use Rattle.tokei_json_tree.specs.Ordered.{AreBefore, keys_of}
use Rattle.tokei_json_tree.proofs.Orderings.{first_before, less_than}
use Rattle.tokei_json_tree.proofs.ordering.is_behind.Goals as goal

pub returns : goal.returns
returns c e =
    let es = c.args.members.now.items in
    let key = c.args.key.now in
    let last : suc (c.args.count - 1) ≡ c.args.count = omega (arith, c.if-count-eq0.false) in
    subst (λ n. AreBefore (keys_of (members_view (take n es))) key) last
    (first_before _ key es (c.args.count - 1) c.index.result.now (omega arith) c.index.ensures c.requires.ordered
    (less_than _ (sym c.lt.ensures ∙ e)))
