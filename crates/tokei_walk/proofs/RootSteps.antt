-- What stands at the roots of a walk, and above them.
use Rattle.std.proofs.Common.{◌≡◌, ℕ, List, [], ◌∷◌, ◌++◌, reverse, map, Bool, true, false, cond, Option, Some, None, refl, sym, ap, ◌∙◌, append_assoc}
use Rattle.std.proofs.lemmas.List.{reverse-append}
use Rattle.tokei_folders.specs.declared.nodes.Node.{Node}
use Rattle.tokei_folders.specs.declared.nodes.Node.TheVariants.{File as file, Folder as folder}
use Rattle.tokei_folders.specs.declared.fs.Above.{Above}
use Rattle.tokei_folders.specs.declared.fs.Kind.{Kind}
use Rattle.tokei_folders.specs.declared.fs.Kind.TheVariants.{Other}
use Rattle.tokei_folders.specs.Answers.{above_view, node_kind}
use Rattle.tokei_folders.specs.Tree.{IsSound, Names, Tree, folders_above, is_sound, names_of, node_at}
use Rattle.tokei_ignore.specs.Fits.{is_empty}
use Rattle.tokei_walk.specs.declared.levels.Context.{Context}
use Rattle.tokei_walk.specs.declared.levels.Level.{Level}
use Rattle.tokei_walk.specs.declared.levels.Rules.{Rules}
use Rattle.tokei_walk.specs.Descent.{levels_above, root_context, with_level}
use Rattle.tokei_walk.specs.Levels.{level_at}
use Rattle.tokei_walk.specs.Walks.{RootIs, levels_over, names_over}
use Rattle.tokei_walk.proofs.StackSteps.{same_context}

pub more : {X : Type 0} (xs ys zs rest whole : List X) (x : X) → ys ≡ xs ++ x ∷ [] → zs ≡ x ∷ rest → xs ++ zs ≡ whole → ys ++ rest ≡ whole
more xs ys zs rest whole x is first so_far = ap (λ q. q ++ rest) is ∙ append_assoc xs (x ∷ []) rest ∙ ap (λ q. xs ++ q) (sym first) ∙ so_far

pub turned : (found front : List Above) (a : Above) → found ≡ front ++ a ∷ [] → reverse found ≡ a ∷ reverse front
turned found front a is = ap reverse is ∙ reverse-append front (a ∷ [])

pub names_over_pop : (found front : List Above) (a : Above) → found ≡ front ++ a ∷ [] → names_over found ≡ a.name ∷ names_over front
names_over_pop found front a is = ap (λ (q : List Above). map (λ b. b.1) (map above_view q)) (turned found front a is)

pub levels_over_pop : (t : Tree) (r : Rules) (found front : List Above) (a : Above)
    → found ≡ front ++ a ∷ [] → levels_over t r found ≡ level_at t r (names_of a.place) ∷ levels_over t r front
levels_over_pop t r found front a is = ap (λ (q : List Above). map (λ b. level_at t r b.0) (map above_view q)) (turned found front a is)

names_down : (top p : Names) → map (λ a. a.1) (folders_above top p) ≡ p
names_down top [] = refl
names_down top (n ∷ ns) = ap (λ (q : Names). n ∷ q) (names_down (top ++ n ∷ []) ns)

if_on : {X : Type 0} (b : Bool) (x y : X) → b ≡ true → x ≡ cond b x y
if_on true x y e = refl
if_on false x y e = absurd (cc)

pub context_told : (t : Tree) (r : Rules) (p : Names) (found : List Above) (c : Context)
    → r.parents ≡ true → map above_view (reverse found) ≡ folders_above [] p
    → c.levels ≡ levels_over t r found → c.names ≡ names_over found → c.shown ≡ p
    → c ≡ root_context t r p
unfolding root_context levels_above
context_told t r p found c on is levels names shown =
    same_context (levels ∙ ap (map (λ a. level_at t r a.0)) is ∙ if_on r.parents _ [] on) (names ∙ ap (map (λ a. a.1)) is ∙ names_down [] p ∙ if_on r.parents p [] on) shown

if_off : {X : Type 0} (b : Bool) (x y : X) → b ≡ false → y ≡ cond b x y
if_off true x y e = absurd (cc)
if_off false x y e = refl

pub context_alone : (t : Tree) (r : Rules) (p : Names) (c : Context) → r.parents ≡ false → c.levels ≡ [] → c.names ≡ [] → c.shown ≡ p → c ≡ root_context t r p
unfolding root_context
context_alone t r p c off levels names shown = same_context (levels ∙ if_off r.parents _ [] off) (names ∙ if_off r.parents p [] off) shown

-- a context with one level more
pub level_added : (c d : Context) (ls : List Level) (l : Level) → c ≡ d → ls ≡ c.levels ++ l ∷ [] → record { levels = ls; names = c.names; shown = c.shown } ≡ with_level d l
level_added c d ls l e is =
    same_context (is ∙ ap (λ (x : Context). x.levels ++ l ∷ []) e) (ap (λ (x : Context). x.names) e) (ap (λ (x : Context). x.shown) e)

node_other : (o : Option Node) → node_kind o ≡ Some Other → ⊥
node_other None e = cc
node_other (Some (file a b c)) e = cc
node_other (Some (folder a)) e = cc

pub root_other : (t : Tree) (root : List ℕ) → Some Other ≡ node_kind (node_at t (names_of root)) → ⊥
root_other t root k = node_other (node_at t (names_of root)) (sym k)

named_by : (root : List ℕ) (b : Bool) (k : Option Kind) (x : Kind) → is_empty root ≡ b → (is_empty root ≡ true → k ≡ None) → k ≡ Some x → is_empty root ≡ false
named_by root true k x e h is = let n : None ≡ Some x = sym (h e) ∙ is in absurd (cc)
named_by root false k x e h is = e

-- a root where something stands isn't empty
pub known_named : (t : Tree) (root : List ℕ) (k : Option Kind) (x : Kind) → RootIs t root k → k ≡ Some x → is_empty root ≡ false
known_named t root k x is e = named_by root (is_empty root) k x refl is.0 e

-- and that stands there in the tree
pub known_kind : (t : Tree) (root : List ℕ) (k : Option Kind) (x : Kind) → RootIs t root k → k ≡ Some x → Some x ≡ node_kind (node_at t (names_of root))
known_kind t root k x is e = sym e ∙ is.1 (known_named t root k x is e)

-- a told tree is sound
pub sound_of : (o : Option Tree) (t : Tree) → IsSound o → o ≡ Some t → is_sound t ≡ true
sound_of None t h e = absurd (cc)
sound_of (Some u) t h e = let same : u ≡ t = cc in ap is_sound (sym same) ∙ h
