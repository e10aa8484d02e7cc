use Rattle.std.proofs.Common.{◌≡◌, ◌<◌, length, get_or, sym, ◌∙◌, ap, arith, subst}
use Rattle.tokei_bytes.specs.OneOf.{is_one_of}
use Rattle.tokei_table_search.specs.OpenerGroups.{IsGroupOf, IsIndexOf}
use Rattle.tokei_table_search.proofs.OpenerGroups.{apart, no_byte}
use Rattle.tokei_table_search.proofs.opener_index.OpenerIndex.group_of.Goals as goal

pub returns-then-byte-first : goal.returns-then-byte-first
returns-then-byte-first c =
    let firsts = c.self.inside.firsts.items in
    let groups = c.self.inside.groups.items in
    let os = c.args.self.now in
    let i = c.loop-i.i in
    let index = subst (λ ts. IsIndexOf ts firsts groups) c.self.view_is c.self.invariant.0 in
    let inside : i < length firsts = omega (arith, c.loop-i-test.true, ap length c.loop-i.invariant.0) in
    let here : c.args.byte ≡ get_or firsts i 0 = c.if-byte-first.true ∙ ap (λ s. get_or s i 0) c.loop-i.invariant.0 in
    subst (λ b. IsGroupOf b os c.index.result.now) (sym here)
    (subst (IsGroupOf (get_or firsts i 0) os) (sym c.index.ensures) (index.grouped.each i c.index.result.now inside))

pub returns : goal.returns
returns c = λ t.
    let firsts = c.self.inside.firsts.items in
    let groups = c.self.inside.groups.items in
    let index = subst (λ os. IsIndexOf os firsts groups) c.self.view_is c.self.invariant.0 in
    apart c.args.self.now firsts groups index c.args.byte t
    (λ y. no_byte c.deref-first-items.result.now c.loop-i.i c.args.byte c.loop-i-test.false c.loop-i.invariant.1
    (ap (λ s. is_one_of s c.args.byte) c.loop-i.invariant.0 ∙ y))
