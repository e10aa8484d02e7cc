-- How the measure of a walk falls.
use Rattle.std.proofs.Common.{◌≡◌, ℕ, zero, suc, ◌+◌, ◌*◌, ◌-◌, ◌<◌, ◌≤◌, ◌^◌, List, [], ◌∷◌, ◌++◌, length, reverse, Bool, true, false, Some, Result, Ok, Err, OnOk, IfOk, sym, ap, ◌∙◌, arith, subst}
use Rattle.std.proofs.Math.Nat.{mul-lt-mul_of_pos_right, mul-le-mul_right}
use Rattle.std.proofs.lemmas.List.{reverse-append, length-reverse, length-append}
use Rattle.tokei_walk.specs.declared.levels.Context.{Context}
use Rattle.tokei_walk.specs.declared.stack.Frame.{Frame}
use Rattle.tokei_folders.specs.declared.fs.Entry.{Entry}
use Rattle.tokei_walk.specs.declared.stack.Step.{Step}
use Rattle.tokei_walk.specs.declared.stack.Step.TheVariants.{Found, Passed, Ended}
use Rattle.std.specs.declared.alloc.AllocError.{AllocError}
use Rattle.tokei_walk.specs.declared.stack.Stack.{Stack}
use Rattle.tokei_walk.specs.Ranks.{weight, frames_rank, stack_rank, all_rank, FoundFalls}
use Rattle.tokei_walk.specs.Stacks.{Pops, Leaves, Enters, Stays, StepStays, file_kept}
use Rattle.tokei_walk.proofs.StackSteps.{with_context}

pub weight-pos : (n : ℕ) → 0 < weight n
unfolding weight
weight-pos zero = omega arith
weight-pos (suc n) = let h = weight-pos n in omega arith

-- the entries of one folder weigh less than the entry that it is
pub weight-below : (k n : ℕ) → k < 2 ^ 64 → k * weight n < weight (suc n)
unfolding weight
weight-below k n h = mul-lt-mul_of_pos_right h (weight-pos n)

-- where the folders stay and the walked one has no more entries left
pub stays_rank : (s v : Stack) → Stays s v → length v.left ≤ length s.left → stack_rank v ≤ stack_rank s
unfolding stack_rank
stays_rank s v stays fewer =
    let w = weight (256 - length s.holders) in
    let less : length v.left * w ≤ length s.left * w = mul-le-mul_right w fewer in
    let same = ap (λ b. length v.left * weight (256 - length b) + frames_rank (reverse b)) stays.2 in
    omega arith

-- an entry that is taken takes its weight
pub popped : (s u : Stack) (entry : Entry) → Pops s u (Some entry) → stack_rank s ≡ stack_rank u + weight (256 - length s.holders)
unfolding stack_rank
popped s u entry h =
    let w = weight (256 - length s.holders) in
    let one : length s.left ≡ suc (length u.left) = sym (length-reverse s.left) ∙ ap length h.0 ∙ ap suc (length-reverse u.left) in
    let same = ap (λ (v : Stack). length u.left * weight (256 - length v.holders) + frames_rank (reverse v.holders)) h.1 in
    let product : length s.left * w ≡ length u.left * w + w = ap (λ n. n * w) one ∙ omega arith in
    omega arith

-- and leaves the walked folder, with fewer entries left
pub fewer_left : (s u : Stack) (entry : Entry) → Pops s u (Some entry) → StepStays s u Passed
fewer_left s u entry h =
    let one : length s.left ≡ suc (length u.left) = sym (length-reverse s.left) ∙ ap length h.0 ∙ ap suc (length-reverse u.left) in
    ((ap (λ (v : Stack). v.context) h.1, ap (λ (v : Stack). v.place) h.1, ap (λ (v : Stack). v.holders) h.1), omega arith)

stays_by : (s u v : Stack) (b : Bool) (place : List ℕ) → StepStays s u Passed → v ≡ u → StepStays s v (file_kept b place)
stays_by s u v true place h same = subst (λ (w : Stack). StepStays s w Passed) (sym same) h
stays_by s u v false place h same = tt

-- so does a file that is met
pub file_stays : (s u v : Stack) (entry : Entry) (b : Bool) (place : List ℕ) (q : Result Step AllocError)
    → Pops s u (Some entry) → OnOk q (v ≡ u) → IfOk q (λ st. st ≡ file_kept b place)
    → IfOk q (λ st. StepStays s v st)
file_stays s u v entry b place (Ok st) h same is = subst (λ (x : Step). StepStays s v x) (sym is) (stays_by s u v b place (fewer_left s u entry h) same)
file_stays s u v entry b place (Err x) h same is = tt

-- the measure of frames that are turned round
turned : (below front : List Frame) (f : Frame) → below ≡ front ++ f ∷ [] → frames_rank (reverse below) ≡ length f.left * weight (256 - length front) + frames_rank (reverse front)
unfolding frames_rank
turned below front f is =
    ap frames_rank (ap reverse is ∙ reverse-append front (f ∷ [])) ∙ ap (λ n. length f.left * weight (256 - n) + frames_rank (reverse front)) (length-reverse front)

-- a folder that is entered weighs less than its entry
pub entered_rank : (s u : Stack) (c : Context) (place : List ℕ) → length s.holders < 256 → Enters (with_context s c) u place → stack_rank u < stack_rank s + weight (256 - length s.holders)
unfolding stack_rank
entered_rank s u c place shallow h =
    let f : Frame = record { place = s.place; left = s.left } in
    let n = 255 - length s.holders in
    let more : 256 - length s.holders ≡ suc n = omega arith in
    let fewer : 256 - length u.holders ≡ n = omega (arith, ap length h.holders_is, length-append s.holders (f ∷ [])) in
    let own : length u.left * weight n < weight (suc n) = weight-below (length u.left) n h.few in
    let at = ap (λ m. length u.left * weight m) fewer in
    let whole = ap weight more in
    let held = turned u.holders s.holders f h.holders_is in
    omega arith

-- a folder that is left takes what was left of it
pub left_rank : (s u : Stack) → Leaves s u true → stack_rank u ≤ stack_rank s
unfolding stack_rank
left_rank s u h =
    let f : Frame = record { place = u.place; left = u.left } in
    let held = turned s.holders u.holders f h.0 in
    omega arith

-- a root's folder weighs less than a root
pub root_rank : (s : Stack) → s.holders ≡ [] → length s.left < 2 ^ 64 → stack_rank s < weight 257
unfolding stack_rank frames_rank
root_rank s below few =
    let own : length s.left * weight 256 < weight (suc 256) = weight-below (length s.left) 256 few in
    let at = ap (λ b. length s.left * weight (256 - length b) + frames_rank (reverse b)) below in
    omega arith

-- a file that is met takes its weight
pub file_falls : (s u v : Stack) (entry : Entry) (q : Result Step AllocError) → Pops s u (Some entry) → OnOk q (v ≡ u) → IfOk q (λ st. FoundFalls s v st)
file_falls s u v entry (Ok (Found k)) h same =
    let p = popped s u entry h in
    let w = weight-pos (256 - length s.holders) in
    let e = ap stack_rank same in
    omega arith
file_falls s u v entry (Ok Passed) h same = tt
file_falls s u v entry (Ok Ended) h same = tt
file_falls s u v entry (Err x) h same = tt

-- a stack that stays, or one whose root is passed over
pub below_root : (s : Stack) → stack_rank s < stack_rank s + weight 257
below_root s = let w = weight-pos 257 in omega arith

-- a walked folder that gives nothing more
pub explored_rank : (s v : Stack) → Stays s v → v.left ≡ [] → stack_rank v ≤ stack_rank s
explored_rank s v stays left = stays_rank s v stays (omega (arith, ap length left))

pub all_falls : (s u : Stack) (roots : List (List ℕ)) → stack_rank u < stack_rank s → all_rank u roots < all_rank s roots
unfolding all_rank
all_falls s u roots h = omega arith

pub all_stays : (s u : Stack) (roots : List (List ℕ)) → stack_rank u ≤ stack_rank s → all_rank u roots ≤ all_rank s roots
unfolding all_rank
all_stays s u roots h = omega arith

-- a root that is begun weighs less than it did
pub root_falls : (s u : Stack) (roots front : List (List ℕ)) (root : List ℕ) → roots ≡ front ++ root ∷ [] → stack_rank u < stack_rank s + weight 257 → all_rank u front < all_rank s roots
unfolding all_rank
root_falls s u roots front root is h =
    let w = weight 257 in
    let one : length roots ≡ length front + 1 = ap length is ∙ length-append front (root ∷ []) in
    let product : length roots * w ≡ length front * w + w = ap (λ n. n * w) one ∙ omega arith in
    omega arith

-- and where it gives no file, there is one root less
pub root_passed : (s u : Stack) (roots front : List (List ℕ)) (root : List ℕ) → roots ≡ front ++ root ∷ [] → stack_rank u < stack_rank s + weight 257 → length u.holders ≤ length s.holders
    → (all_rank u front ≤ all_rank s roots) × (length front + length u.holders < length roots + length s.holders)
root_passed s u roots front root is h below =
    let less = root_falls s u roots front root is h in
    let one : length roots ≡ length front + 1 = ap length is ∙ length-append front (root ∷ []) in
    (omega arith, omega arith)
