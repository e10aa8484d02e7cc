use Rattle.std.proofs.Common.{◌≡◌, ◌==◌, ◌∙◌, sym, ap, false, true, length}
use Rattle.std.specs.List.{insert}
use Rattle.tokei_folders.specs.Tree.{Names, Tree}
use Rattle.tokei_memory.specs.Additions.{placed}
use Rattle.tokei_memory.proofs.Placing.{under_top, on_top}
use Rattle.tokei_memory.proofs.told.put.Goals as goal

pub returns-then-is_empty-clause-placed : goal.returns-then-is_empty-clause-placed
returns-then-is_empty-clause-placed c = λ top e.
    let h : (length c.args.node.names == 0) ≡ true = ap (λ (x : Names). length x == 0) (sym c.as_slice.ensures) ∙ sym c.is_empty.ensures ∙ c.if-is_empty.true in
    on_top top c.args.node c.args.places.now.items e h

pub returns-in_default-clause-placed : goal.returns-in_default-clause-placed
returns-in_default-clause-placed c = λ top e.
    let h : (length c.args.node.names == 0) ≡ false = ap (λ (x : Names). length x == 0) (sym c.as_slice.ensures) ∙ sym c.is_empty.ensures ∙ c.if-is_empty.false in
    let v = c.as_slice-2.ensures.value in
    under_top top c.args.node c.args.places.now.items c.args.places.now.items e h
    (sym (ap (λ (x : Tree). placed x c.args.node) (sym v)
    ∙ c.in_default.ensures c.args.node (sym c.as_slice-3.ensures) ∙ v))

pub returns-clause-placed : goal.returns-clause-placed
returns-clause-placed c = λ top e.
    let h : (length c.args.node.names == 0) ≡ false = ap (λ (x : Names). length x == 0) (sym c.as_slice.ensures) ∙ sym c.is_empty.ensures ∙ c.if-is_empty.false in
    let v = c.as_slice-2.ensures.value in
    under_top top c.args.node c.args.places.now.items c.insert.new.self.items e h
    (c.in_ok-insert.ensures.items
    ∙ sym (ap (λ (x : Tree). placed x c.args.node) (sym v)
    ∙ c.in-Some.ensures.1 c.args.node (sym c.as_slice-3.ensures)
    ∙ ap (λ (x : Tree). insert x c.in-Some.at c.args.node) v))
