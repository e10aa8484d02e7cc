use Rattle.std.proofs.Common.{◌≡◌, ◌++◌, codes, IfOk, string_bytes, ap, ap₂, subst, sym}
use Rattle.tokei_print.specs.Subtotal.{subtotal}
use Rattle.tokei_print.specs.LinesFit.{LinesFit}
use Rattle.tokei_print.proofs.children.children_block.Goals as goal

pub returns-clause-ok : goal.returns-clause-ok
returns-clause-ok c =
    subst (λ b. IfOk c.joined.result (λ s. string_bytes s ≡ b))
    (ap₂ (λ x y. x ++ y) c.in_ok-rows.ensures.ok (ap (subtotal c.args.layout.now (codes "(Total)")) c.in_ok-counts.ensures.sum))
    (c.joined.ensures.ok _ c.subtotal.ensures.ok)

pub returns-clause-overflow : goal.returns-clause-overflow
returns-clause-overflow c = λ t f.
    c.subtotal.ensures.overflow (c.joined.ensures.overflow t) (subst LinesFit (sym c.in_ok-counts.ensures.sum) f.subtotal)
