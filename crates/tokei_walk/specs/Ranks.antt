-- A measure of a walk: it falls with each file that is answered, in folders that tell a tree and in
-- others.
use Rattle.std.specs.Prelude.{ℕ, zero, suc, ◌+◌, ◌*◌, ◌-◌, ◌<◌, ◌^◌, List, [], ◌∷◌, length, reverse}
use Rattle.tokei_walk.specs.declared.stack.Frame.{Frame}
use Rattle.tokei_walk.specs.declared.stack.Stack.{Stack}
use Rattle.tokei_walk.specs.declared.stack.Step.{Step}
use Rattle.tokei_walk.specs.declared.stack.Step.TheVariants.{Found, Passed, Ended}
use Rattle.tokei_walk.specs.declared.walking.Walk.{Walk}
use Rattle.tokei_walk.specs.Kept.{greatest_depth, most_names}

-- what an entry weighs below which so many levels may be entered: more than all entries of one
-- folder below it
unfoldable pub weight : ℕ → ℕ
weight zero = 1
weight (suc n) = 2 ^ 64 * weight n

-- the entries left of the folders that are entered and not left, the innermost first
unfoldable pub frames_rank : List Frame → ℕ
frames_rank [] = 0
frames_rank (f ∷ fs) = length f.left * weight (greatest_depth - length fs) + frames_rank fs

-- the entries left of all folders that are walked
unfoldable pub stack_rank : Stack → ℕ
stack_rank stack = length stack.left * weight (greatest_depth - length stack.holders) + frames_rank
    (reverse stack.holders)

-- those, and the roots that are still to come
unfoldable pub all_rank : Stack → List (List ℕ) → ℕ
all_rank stack roots = length roots * weight most_names + stack_rank stack

-- the measure of a walk
unfoldable pub rank : Walk → ℕ
rank walk = all_rank walk.stack walk.roots

-- a step that finds a file lowers the measure
abbrev pub FoundFalls : Stack → Stack → Step → Type 0
FoundFalls old new (Found k) = stack_rank new < stack_rank old
FoundFalls old new Passed = Unit {0}
FoundFalls old new Ended = Unit {0}
