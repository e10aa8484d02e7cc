use Rattle.std.proofs.Common.{◌≤◌, [], ℕ, List, length, sym, ap, ap₂, ◌∙◌, arith, refl}
use Rattle.std.proofs.lemmas.Option.{none-some}
use Rattle.std.proofs.lemmas.Result.{IfOk-from_err}
use Rattle.tokei_folders.specs.Places.{joined}
use Rattle.tokei_walk.specs.declared.levels.Context.{Context}
use Rattle.tokei_walk.specs.Levels.{under}
use Rattle.tokei_walk.proofs.StackSteps.{with_context}
use Rattle.tokei_walk.proofs.Growing.{grows_same, grows_by}
use Rattle.tokei_walk.specs.declared.kept_file.NoteKind.TheVariants.{TooDeep}
use Rattle.tokei_walk.specs.Met.{as_met, met_note}
use Rattle.tokei_walk.specs.MetSteps.{met_visit}
use Rattle.tokei_walk.proofs.Meeting.{met_said, met_same}
use Rattle.tokei_walk.proofs.MetSteps.{visit_deep, visit_dropped}
use Rattle.tokei_walk.proofs.Noting.{says_more}
use Rattle.tokei_walk.proofs.stack.push_folder_name.Goals as goal

pub returns-clause-place : goal.returns-clause-place
returns-clause-place c =
    c.in_ok-place.ensures.place ∙ ap₂ (λ (p n : List ℕ). joined p n) c.as_str.ensures (c.as_str-2.ensures ∙ c.in_ok-dropped.ensures.name)

pub returns-clause-named : goal.returns-clause-named
returns-clause-named c =
    let is = c.in_ok-push_name.ensures ∙ ap₂ (λ (a : Context) (n : List ℕ). under a n) c.in_ok-dropped.ensures.context c.in_ok-dropped.ensures.name in
    ap (with_context c.args.stack.now) is

pub returns-clause-shallow : goal.returns-clause-shallow
returns-clause-shallow c = omega (arith, c.len.ensures)

pub returns-clause-kept : goal.returns-clause-kept
returns-clause-kept c = sym c.in_ok-dropped.ensures.dropped ∙ c.if-dropped.false

pub returns-in_err-dropped-clause-notes : goal.returns-in_err-dropped-clause-notes
returns-in_err-dropped-clause-notes c = grows_same _ _ refl

pub returns-then-dropped-clause-notes : goal.returns-then-dropped-clause-notes
returns-then-dropped-clause-notes c = grows_same _ _ refl

pub returns-in_err-place-clause-notes : goal.returns-in_err-place-clause-notes
returns-in_err-place-clause-notes c = grows_same _ _ refl

pub returns-then-len-ge-MAX_DEPTH-clause-notes : goal.returns-then-len-ge-MAX_DEPTH-clause-notes
returns-then-len-ge-MAX_DEPTH-clause-notes c = grows_by _ _ _ c.in_ok-push.ensures.ok

pub returns-in_err-push_name-clause-notes : goal.returns-in_err-push_name-clause-notes
returns-in_err-push_name-clause-notes c = grows_same _ _ refl

pub returns-clause-notes : goal.returns-clause-notes
returns-clause-notes c = grows_same _ _ refl

pub returns-then-dropped-clause-same : goal.returns-then-dropped-clause-same
returns-then-dropped-clause-same c = λ q. ap (with_context c.args.stack.now) c.in_ok-dropped.ensures.context

pub returns-then-len-ge-MAX_DEPTH-clause-same : goal.returns-then-len-ge-MAX_DEPTH-clause-same
returns-then-len-ge-MAX_DEPTH-clause-same c = λ q. ap (with_context c.args.stack.now) c.in_ok-dropped.ensures.context

pub returns-in_err-push-clause-notes : goal.returns-in_err-push-clause-notes
returns-in_err-push-clause-notes c = grows_same _ _ c.in_err-push.ensures.err

pub returns-clause-quiet : goal.returns-clause-quiet
returns-clause-quiet c = refl

pub returns-then-dropped-clause-met : goal.returns-then-dropped-clause-met
returns-then-dropped-clause-met c = λ q t.
    let x = c.args.settings.now in let s = c.args.stack.now in
    met_same _ _ _ [] refl (visit_dropped x.excludes x.rules t s c.args.name (joined s.place c.args.name) (sym c.in_ok-dropped.ensures.dropped ∙ c.if-dropped.true))

pub returns-then-len-ge-MAX_DEPTH-clause-met : goal.returns-then-len-ge-MAX_DEPTH-clause-met
unfolding as_met
returns-then-len-ge-MAX_DEPTH-clause-met c = λ q t.
    let x = c.args.settings.now in let s = c.args.stack.now in let name = c.args.name in
    let deep : 256 ≤ length s.holders = omega (arith, c.len.ensures) in
    let place = c.in_ok-place.ensures.place ∙ ap₂ (λ (p n : List ℕ). joined p n) c.as_str.ensures (c.as_str-2.ensures ∙ c.in_ok-dropped.ensures.name) in
    met_said _ _ _ (met_visit x.excludes x.rules t s name (joined s.place name))
    (visit_deep x.excludes x.rules t s name (joined s.place name) (sym c.in_ok-dropped.ensures.dropped ∙ c.if-dropped.false) deep
    ∙ ap (λ (p : List ℕ). met_note TooDeep p) (sym place))
    (says_more _ _ _ c.in_ok-push.ensures.ok)

pub returns-clause-same : goal.returns-clause-same
returns-clause-same c = λ q. absurd (none-some _ (sym q))

pub returns-clause-met : goal.returns-clause-met
returns-clause-met c = λ q. absurd (none-some _ (sym q))

pub returns-in_err-push_name-clause-met : goal.returns-in_err-push_name-clause-met
returns-in_err-push_name-clause-met c = IfOk-from_err _ _ c.from_residual-in_err-push_name.ensures.0

pub returns-in_err-push_name-clause-named : goal.returns-in_err-push_name-clause-named
returns-in_err-push_name-clause-named c = IfOk-from_err _ _ c.from_residual-in_err-push_name.ensures.0

pub returns-in_err-push_name-clause-same : goal.returns-in_err-push_name-clause-same
returns-in_err-push_name-clause-same c = IfOk-from_err _ _ c.from_residual-in_err-push_name.ensures.0

pub returns-in_err-push_name-clause-quiet : goal.returns-in_err-push_name-clause-quiet
returns-in_err-push_name-clause-quiet c = IfOk-from_err _ _ c.from_residual-in_err-push_name.ensures.0

pub returns-in_err-push-clause-met : goal.returns-in_err-push-clause-met
returns-in_err-push-clause-met c = IfOk-from_err _ _ c.from_residual-in_err-push.ensures.0

pub returns-in_err-push-clause-named : goal.returns-in_err-push-clause-named
returns-in_err-push-clause-named c = IfOk-from_err _ _ c.from_residual-in_err-push.ensures.0

pub returns-in_err-push-clause-same : goal.returns-in_err-push-clause-same
returns-in_err-push-clause-same c = IfOk-from_err _ _ c.from_residual-in_err-push.ensures.0

pub returns-in_err-push-clause-quiet : goal.returns-in_err-push-clause-quiet
returns-in_err-push-clause-quiet c = IfOk-from_err _ _ c.from_residual-in_err-push.ensures.0
