use Rattle.std.proofs.Common.{◌∙◌, ap, sym}
use Rattle.std.specs.Ordering.{is_eq}
use Rattle.std.proofs.lemmas.Cmp.{is_eq_index}
use Rattle.tokei_folders.specs.Tree.{Names, names_cmp}
use Rattle.tokei_memory.proofs.Refusing.{changed_here}
use Rattle.tokei_memory.proofs.told.refuse_among.Goals as goal

pub returns-then-eq : goal.returns-then-eq
returns-then-eq c =
    let same = ap (λ (x : Names). names_cmp x c.args.names.now) (sym c.as_slice.ensures) ∙ sym c.compare.ensures in
    changed_here _ c.args.names.now c.loop-place.places c.args.places.now c.loop-place.place-index
    c.place-item.result _ c.loop-place-test.true c.loop-place.invariant.same
    (ap is_eq same ∙ is_eq_index c.compare.result ∙ sym c.if-eq.ensures) c.refuse_call.ensures
    c.loop-place.invariant.rest
