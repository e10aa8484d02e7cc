-- A walk that is over.
use Rattle.std.proofs.Common.{◌≡◌, ◌&&◌, ◌||◌, List, [], ◌∷◌, Bool, true, false, refl, ap, ap₂, ◌∙◌}
use Rattle.tokei_folders.specs.Tree.{Tree}
use Rattle.tokei_folders.proofs.NameOrder.{left_of_and, right_of_and}
use Rattle.tokei_ignore.specs.Fits.{is_empty}
use Rattle.tokei_walk.specs.declared.walking.Walk.{Walk}
use Rattle.tokei_walk.specs.Met.{files_in, notes_in}
use Rattle.tokei_walk.specs.Walks.{is_over, is_spent, met_to_come, noted_to_come, to_come}
use Rattle.tokei_walk.proofs.MetRoots.{no_roots, to_come_failed, to_come_left}

nothing_in : {X : Type 0} (xs : List X) → is_empty xs ≡ true → xs ≡ []
nothing_in [] e = refl
nothing_in (x ∷ xs) e = absurd (cc)

-- a walk that is over, and hasn't failed, has nothing left
pub nothing_left : (w : Walk) → (is_spent w.stack && is_empty w.roots) ≡ true → (w.stack.left ≡ []) × ((w.stack.holders ≡ []) × (w.roots ≡ []))
nothing_left w h =
    let spent = left_of_and (is_spent w.stack) (is_empty w.roots) h in (
      nothing_in w.stack.left (left_of_and (is_empty w.stack.left) (is_empty w.stack.holders) spent),
      (
        nothing_in w.stack.holders (right_of_and (is_empty w.stack.left) (is_empty w.stack.holders) spent),
        nothing_in w.roots (right_of_and (is_spent w.stack) (is_empty w.roots) h),
      ),
    )

none_left : (t : Tree) (w : Walk) (b : Bool) → w.failed ≡ b → (b || (is_spent w.stack && is_empty w.roots)) ≡ true → met_to_come t w ≡ []
none_left t w true is h = to_come_failed t w is
none_left t w false is h =
    let ends = nothing_left w h in
    to_come_left t w is ∙ no_roots _ _ t w.stack w.roots ends.0 ends.1.0 ends.1.1

-- nothing is to be met
pub over_meets : (t : Tree) (w : Walk) → is_over w ≡ true → met_to_come t w ≡ []
unfolding is_over
over_meets t w h = none_left t w w.failed refl h

-- no file is to come
pub over_gives : (t : Tree) (w : Walk) → is_over w ≡ true → to_come t w ≡ []
unfolding to_come files_in
over_gives t w h = ap files_in (over_meets t w h)

-- and no note
pub over_notes : (t : Tree) (w : Walk) → is_over w ≡ true → noted_to_come t w ≡ []
unfolding noted_to_come notes_in
over_notes t w h = ap notes_in (over_meets t w h)

left_false : (a b : Bool) → (a || b) ≡ false → a ≡ false
left_false true b e = absurd (cc)
left_false false b e = refl

-- a walk that isn't over hasn't failed
pub not_failed : (w : Walk) → is_over w ≡ false → w.failed ≡ false
unfolding is_over
not_failed w h = left_false w.failed (is_spent w.stack && is_empty w.roots) h

or_true : (b : Bool) → (b || true) ≡ true
or_true true = refl
or_true false = refl

-- a walk of which nothing is left is over
pub spent_over : (w : Walk) → w.stack.left ≡ [] → w.stack.holders ≡ [] → w.roots ≡ [] → is_over w ≡ true
unfolding is_over
spent_over w left below roots =
    ap (λ (b : Bool). w.failed || b) (ap₂ (λ (a b : Bool). a && b) (ap₂ (λ (a b : Bool). a && b) (ap is_empty left) (ap is_empty below)) (ap is_empty roots)) ∙ or_true w.failed
