-- When a place can be added or refuse a call, and the tree that is told then.
use Rattle.std.proofs.Common.{◌≡◌, ℕ, List, [], ◌∷◌, ◌++◌, Bool, true, false, not, cond, ◌||◌, Some, None, is_some, sym, ap, ap₂, ◌∙◌}
use Rattle.tokei_folders.specs.Tree.{Names, Tree, node_at, is_file}
use Rattle.tokei_memory.specs.declared.call.Call.{Call}
use Rattle.tokei_memory.specs.declared.call.Call.TheVariants.{List as ListCall, Read, Head}
use Rattle.tokei_memory.specs.Additions.{with_all, with_folder, with_file, folders_to, new_folder, new_file, is_below_file}
use Rattle.tokei_memory.specs.Refusals.{with_refusal, with_refusals, refused_at}

flipped : (a b : Bool) → a ≡ not b → b ≡ not a
flipped a true e = ap not (sym e)
flipped a false e = ap not (sym e)

pub folder_refused : (t : Tree) (p q : Names) → q ≡ p → false ≡ not (is_below_file t q || is_file (node_at t q)) → with_folder t p ≡ None
unfolding with_folder
folder_refused t p q is h =
    let there : (is_below_file t p || is_file (node_at t p)) ≡ true =
    ap (λ (x : Names). is_below_file t x || is_file (node_at t x)) (sym is)
    ∙ flipped false (is_below_file t q || is_file (node_at t q)) h in
    ap (λ (b : Bool). cond b None (Some (with_all t (folders_to p ++ new_folder p ∷ [])))) there

pub folder_added : (t new : Tree) (p q a : Names) → q ≡ p → a ≡ q
    → true ≡ not (is_below_file t a || is_file (node_at t a))
    → new ≡ with_all t (folders_to q ++ new_folder q ∷ []) → with_folder t p ≡ Some new
unfolding with_folder
folder_added t new p q a is ea h e =
    let free : (is_below_file t p || is_file (node_at t p)) ≡ false =
    ap (λ (x : Names). is_below_file t x || is_file (node_at t x)) (sym (ea ∙ is))
    ∙ flipped true (is_below_file t a || is_file (node_at t a)) h in
    let added : new ≡ with_all t (folders_to p ++ new_folder p ∷ []) = e ∙ ap (λ (x : Names). with_all t (folders_to x ++ new_folder x ∷ [])) is in
    ap (λ (x : Bool). cond x None (Some (with_all t (folders_to p ++ new_folder p ∷ [])))) free ∙ ap Some (sym added)

pub file_refused : (t : Tree) (p q : Names) (content : List ℕ) → q ≡ p → false ≡ not (is_below_file t q || is_some (node_at t q)) → with_file t p content ≡ None
unfolding with_file
file_refused t p q content is h =
    let there : (is_below_file t p || is_some (node_at t p)) ≡ true =
    ap (λ (x : Names). is_below_file t x || is_some (node_at t x)) (sym is)
    ∙ flipped false (is_below_file t q || is_some (node_at t q)) h in
    ap (λ (b : Bool). cond b None (Some (with_all t (folders_to p ++ new_file p content ∷ [])))) there

pub file_added : (t new : Tree) (p q a : Names) (content bytes : List ℕ)
    → q ≡ p → a ≡ q → bytes ≡ content
    → true ≡ not (is_below_file t a || is_some (node_at t a))
    → new ≡ with_all t (folders_to q ++ new_file q bytes ∷ []) → with_file t p content ≡ Some new
unfolding with_file
file_added t new p q a content bytes is ea same h e =
    let free : (is_below_file t p || is_some (node_at t p)) ≡ false =
    ap (λ (x : Names). is_below_file t x || is_some (node_at t x)) (sym (ea ∙ is))
    ∙ flipped true (is_below_file t a || is_some (node_at t a)) h in
    let added : new ≡ with_all t (folders_to p ++ new_file p content ∷ []) =
    e
    ∙ ap₂ (λ (x : Names) (y : List ℕ). with_all t (folders_to x ++ new_file x y ∷ [])) is same in
    ap (λ (x : Bool). cond x None (Some (with_all t (folders_to p ++ new_file p content ∷ [])))) free ∙ ap Some (sym added)

pub missing_refuses : (t : Tree) (p q : Names) (call : Call) → q ≡ p → false ≡ is_some (node_at t q) → with_refusal t p call ≡ None
unfolding with_refusal
missing_refuses t p q call is h = ap (λ (b : Bool). cond b (Some (refused_at call p t)) None) (ap (λ (x : Names). is_some (node_at t x)) (sym is) ∙ sym h)

pub call_refused : (t new : Tree) (p q : Names) (call : Call) → q ≡ p → true ≡ is_some (node_at t q) → new ≡ refused_at call q t → with_refusal t p call ≡ Some new
unfolding with_refusal
call_refused t new p q call is h e =
    ap (λ (b : Bool). cond b (Some (refused_at call p t)) None) (ap (λ (x : Names). is_some (node_at t x)) (sym is) ∙ sym h) ∙ ap Some (sym (e ∙ ap (λ (x : Names). refused_at call x t) is))

pub missing_refuses_all : (t : Tree) (p q : Names) → q ≡ p → false ≡ is_some (node_at t q) → with_refusals t p ≡ None
unfolding with_refusals
missing_refuses_all t p q is h =
    ap (λ (b : Bool). cond b (Some (refused_at ListCall p (refused_at Read p (refused_at Head p t)))) None) (ap (λ (x : Names). is_some (node_at t x)) (sym is) ∙ sym h)

pub calls_refused : (t new : Tree) (p q : Names) → q ≡ p → true ≡ is_some (node_at t q) → new ≡ refused_at ListCall q (refused_at Read q (refused_at Head q t)) → with_refusals t p ≡ Some new
unfolding with_refusals
calls_refused t new p q is h e =
    ap (λ (b : Bool). cond b (Some (refused_at ListCall p (refused_at Read p (refused_at Head p t)))) None) (ap (λ (x : Names). is_some (node_at t x)) (sym is) ∙ sym h)
    ∙ ap Some (sym (e ∙ ap (λ (x : Names). refused_at ListCall x (refused_at Read x (refused_at Head x t))) is))
