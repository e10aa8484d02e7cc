use Rattle.std.proofs.Common.{◌≡◌, ◌+◌, ◌-◌, ◌/◌, None, suc, drop, take, subst, sym, ◌∙◌, arith}
use Rattle.std.proofs.lemmas.List.{take-append-drop}
use Rattle.json.specs.Value.{members_view}
use Rattle.serde_json.specs.Find.{get_member}
use Rattle.tokei_json_tree.specs.Ordered.{AreBefore, keys_of}
use Rattle.tokei_json_tree.specs.TreeData.{members_data}
use Rattle.tokei_json_tree.proofs.Found.{absent, found_at, last_behind, ordered_at}
use Rattle.tokei_json_tree.proofs.Orderings.{IsBeforeAll, first_before}
use Rattle.tokei_json_tree.proofs.lookups.find.Goals as goal

pub loop-low-preserved-in-Less : goal.loop-low-preserved-in-Less
loop-low-preserved-in-Less c =
    let l = c.loop-low in
    let es = c.args.members.now.items in
    let name = c.args.name.now in
    let middle = l.low + (l.high - l.low) / 2 in
    let next : suc middle ≡ middle + 1 = omega arith in
    record {
      order = omega arith;
      within = l.invariant.within;
      before = subst (λ n. AreBefore (keys_of (members_view (take n es))) name) next
          (first_before _ name es middle c.index-found.result.now (omega arith) c.index-found.ensures c.requires.keys (sym c.cmp.ensures ∙ c.in-Less.is));
      behind = l.invariant.behind;
    }

pub loop-low-preserved : goal.loop-low-preserved
loop-low-preserved c =
    let l = c.loop-low in
    let es = c.args.members.now.items in
    let middle = l.low + (l.high - l.low) / 2 in
    record {
      order = omega arith;
      within = omega arith;
      before = l.invariant.before;
      behind = last_behind _ c.args.name.now es middle c.index-found.result.now (omega arith) c.index-found.ensures c.requires.keys
          (sym c.cmp.ensures ∙ c.in-Greater.is);
    }

pub returns-in-Equal-clause-value : goal.returns-in-Equal-clause-value
returns-in-Equal-clause-value c =
    let l = c.loop-low in
    sym (found_at _ c.args.name.now c.args.members.now.items (l.low + (l.high - l.low) / 2) c.index-found.result.now (omega arith)
    c.index-found.ensures c.requires.keys (sym c.cmp.ensures ∙ c.in-Equal.is))

pub returns-in-Equal-clause-ordered : goal.returns-in-Equal-clause-ordered
returns-in-Equal-clause-ordered c =
    let l = c.loop-low in
    ordered_at _ c.args.members.now.items (l.low + (l.high - l.low) / 2) c.index-found.result.now (omega arith) c.index-found.ensures c.requires.ordered

pub returns-clause-value : goal.returns-clause-value
returns-clause-value c =
    let l = c.loop-low in
    let es = c.args.members.now.items in
    let name = c.args.name.now in
    let met : l.high ≡ l.low = omega arith in
    let behind = subst (λ n. IsBeforeAll name (keys_of (members_view (drop n es)))) met l.invariant.behind in
    sym (subst (λ xs. get_member name (members_data (members_view xs)) ≡ None) (take-append-drop l.low es)
    (absent _ name (take l.low es) (drop l.low es) l.invariant.before behind))
