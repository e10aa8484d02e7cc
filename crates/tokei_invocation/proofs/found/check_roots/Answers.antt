-- Something stands at the roots so far and at the next one, and at the end at all.
use Rattle.std.proofs.Common.{◌≡◌, ◌∙◌, ap, rules, string_bytes, subst, sym}
use Rattle.std.proofs.lemmas.Result.{err_from_is_err_and}
use Rattle.tokei_invocation.proofs.FirstMissing.{first_missing}
use Rattle.tokei_invocation.proofs.Taken.{stand_all, stand_next}
use Rattle.tokei_invocation.specs.Endings.{IsEndingOfRoot}
use Rattle.tokei_invocation.specs.Roots.{stands}
use Rattle.tokei_invocation.proofs.found.check_roots.Goals as goal

pub loop-root-preserved : goal.loop-root-preserved
loop-root-preserved g c =
    let root = c.root-item.result in
    let shown : c.as_str.result.now ≡ string_bytes root = search rules in (
      c.check_root.ensures.same ∙ c.loop-root.invariant.0,
      λ t told. stand_next c.args.roots.now c.loop-root.root-index root c.loop-root-test.true c.root-item.is t (c.loop-root.invariant.1 t told)
          (ap (stands t) (sym shown) ∙ c.in_ok-check_root.ensures.told t (c.loop-root.invariant.0 ∙ told)),
    )

pub returns-clause-told : goal.returns-clause-told
returns-clause-told g c t told = stand_all c.args.roots.now c.loop-root.root-index t (c.loop-root.invariant.1 t told) c.loop-root-test.false

pub returns-in_err-check_root-clause-cause : goal.returns-in_err-check_root-clause-cause
returns-in_err-check_root-clause-cause g c t told =
    let root = c.root-item.result in
    let shown : c.as_str.result.now ≡ string_bytes root = search rules in
    let p = err_from_is_err_and c.from_residual.result c.from_residual.ensures.1 in
    let here = subst (λ r. IsEndingOfRoot t r c.in_err-check_root.field-0.0) shown (c.in_err-check_root.ensures.cause t (c.loop-root.invariant.0 ∙ told)) in
    rw (p.1, p.2) (first_missing c.args.roots.now c.loop-root.root-index root c.loop-root-test.true c.root-item.is t (c.loop-root.invariant.1 t told)
    c.in_err-check_root.field-0.0 here)
