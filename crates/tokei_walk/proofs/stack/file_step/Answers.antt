use Rattle.std.proofs.Common.{ap, ◌≡◌, ◌∙◌, ℕ, List, Bool, true, false, sym, ap₂}
use Rattle.tokei_walk.proofs.StackSteps.{with_context}
use Rattle.tokei_folders.specs.Places.{joined}
use Rattle.tokei_walk.specs.Stacks.{file_kept}
use Rattle.tokei_walk.specs.declared.stack.Step.TheVariants.{Found}
use Rattle.tokei_walk.proofs.Refusals.{refuses_none}
use Rattle.tokei_walk.proofs.stack.file_step.Goals as goal

-- a file that isn't dropped is found at its place
found_kept : (dropped : Bool) (path place whole : List ℕ) → dropped ≡ false → path ≡ whole → place ≡ whole → Found (record { path = path; place = place }) ≡ file_kept dropped whole
found_kept true path place whole is e f = absurd (cc)
found_kept false path place whole is e f = ap₂ (λ (p q : List ℕ). Found (record { path = p; place = q })) e f

pub returns-clause-stays : goal.returns-clause-stays
returns-clause-stays c = ap (with_context c.args.stack.now) c.in_ok-dropped.ensures.context

pub returns-then-dropped-clause-stays : goal.returns-then-dropped-clause-stays
returns-then-dropped-clause-stays c = ap (with_context c.args.stack.now) c.in_ok-dropped.ensures.context

pub returns-clause-kept : goal.returns-clause-kept
returns-clause-kept c =
    let place = c.in_ok-place.ensures.place ∙ ap₂ (λ (p n : List ℕ). joined p n) c.as_str.ensures (c.as_str-2.ensures ∙ c.in_ok-dropped.ensures.name) in
    found_kept _ _ _ _ (sym c.in_ok-dropped.ensures.dropped ∙ c.if-dropped.false) (c.in_ok-path.ensures ∙ c.as_str-3.ensures ∙ place) place

pub returns-in_err-path-clause-stays : goal.returns-in_err-path-clause-stays
returns-in_err-path-clause-stays c = refuses_none _ _ c.from_residual-in_err-path.ensures.0
