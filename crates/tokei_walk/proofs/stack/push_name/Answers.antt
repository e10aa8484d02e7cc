use Rattle.std.proofs.Common.{refl, ap, ◌∙◌, ◌++◌, ◌∷◌, [], List, ℕ}
use Rattle.tokei_walk.proofs.StackSteps.{same_context}
use Rattle.tokei_walk.proofs.stack.push_name.Goals as goal

pub returns : goal.returns
returns c = same_context refl c.in_ok-push-2.ensures.ok (c.in_ok-push.ensures.ok ∙ ap (λ (x : List ℕ). c.args.context.now.shown ++ x ∷ []) (c.in_ok-from_str.ensures ∙ c.as_str.ensures))
