-- How a step of the walk changes what is walked.
use Rattle.std.proofs.Common.{◌≡◌, ℕ, List, [], ◌∷◌, ◌++◌, length, Bool, true, false, refl, sym, ap, ◌∙◌, arith}
use Rattle.std.proofs.lemmas.List.{same_from_push, length-append}
use Rattle.tokei_folders.specs.Ends.{without_last}
use Rattle.tokei_folders.proofs.ListEnds.{without_last-push}
use Rattle.tokei_walk.specs.declared.levels.Context.{Context}
use Rattle.tokei_walk.specs.declared.levels.Level.{Level}
use Rattle.tokei_walk.specs.declared.stack.Frame.{Frame}
use Rattle.tokei_walk.specs.declared.stack.Stack.{Stack}
use Rattle.tokei_walk.specs.Descent.{outer, with_level, without_name}
use Rattle.tokei_walk.specs.Levels.{under}
use Rattle.tokei_walk.specs.Stacks.{Enters, Leaves, Stays}

abbrev pub context_of : List Level → List (List ℕ) → List (List ℕ) → Context
context_of l n s = record { levels = l; names = n; shown = s }

pub same_context : {l l' : List Level} {n n' s s' : List (List ℕ)} → l ≡ l' → n ≡ n' → s ≡ s' → context_of l n s ≡ context_of l' n' s'
same_context a b c = λ i. context_of (a i) (b i) (c i)

-- the stack with another context
abbrev pub with_context : Stack → Context → Stack
with_context s c = record { context = c; place = s.place; left = s.left; holders = s.holders }

-- a name that is taken off again
pub forgotten : (c d e : Context) (name : List ℕ) → d ≡ under c name → e ≡ without_name d → e ≡ c
forgotten c d e name is took =
    took ∙ ap without_name is ∙ same_context refl (without_last-push c.names name) (without_last-push c.shown name)

pub forgotten_stack : (s : Stack) (d e : Context) (name : List ℕ) → d ≡ under s.context name → e ≡ without_name d → with_context s e ≡ s
forgotten_stack s d e name is took = ap (with_context s) (forgotten s.context d e name is took)

pub entered_context : (s u : Stack) (c : Context) (l : Level) (place name : List ℕ)
    → c ≡ under s.context name → Enters (with_context s c) u place
    → u.context.levels ≡ c.levels ++ l ∷ [] → with_level (under s.context name) l ≡ u.context
entered_context s u c l place name is h levels =
    same_context (ap (λ (d : Context). d.levels ++ l ∷ []) (sym is) ∙ sym levels)
    (ap (λ (d : Context). d.names) (sym is) ∙ sym h.names_stay)
    (ap (λ (d : Context). d.shown) (sym is) ∙ sym h.shown_stay)

pub outer_is : (s u : Stack) (c : Context) (name place : List ℕ) → c ≡ under s.context name → Enters (with_context s c) u place → outer u.context ≡ s.context
outer_is s u c name place is h =
    same_context (h.levels_is ∙ ap (λ (d : Context). d.levels) is)
    (ap without_last (h.names_stay ∙ ap (λ (d : Context). d.names) is)
    ∙ without_last-push s.context.names name)
    (ap without_last (h.shown_stay ∙ ap (λ (d : Context). d.shown) is)
    ∙ without_last-push s.context.shown name)

abbrev stack_of : Context → Frame → List Frame → Stack
stack_of c f fs = record { context = c; place = f.place; left = f.left; holders = fs }

-- the folder is left again
pub visit_left : (s u v w : Stack) (c : Context) (b : Bool) (name place : List ℕ) → c ≡ under s.context name → Enters (with_context s c) u place → Stays u v → Leaves v w b → w ≡ s
visit_left s u v w c false name place is h stays left =
    absurd (let e : _ ≡ [] = sym (stays.2 ∙ h.holders_is) ∙ left.0 in let n = ap length e in omega (arith, length-append s.holders (record { place = s.place; left = s.left } ∷ [])))
visit_left s u v w c true name place is h stays left =
    let f : Frame = record { place = s.place; left = s.left } in
    let g : Frame = record { place = w.place; left = w.left } in
    let both = same_from_push w.holders s.holders g f (sym left.0 ∙ stays.2 ∙ h.holders_is) in
    let context = left.1 ∙ ap outer stays.0 ∙ outer_is s u c name place is h in
    λ i. stack_of (context i) (both.1 i) (both.0 i)

pub refused_stack : (s u : Stack) (d e : Context) (name : List ℕ) → u ≡ with_context s d → d ≡ under s.context name → e ≡ without_name u.context → with_context u e ≡ s
refused_stack s u d e name same is took =
    ap (λ (v : Stack). with_context v e) same ∙ forgotten_stack s d e name is (took ∙ ap (λ (v : Stack). without_name v.context) same)
