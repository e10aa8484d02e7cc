-- The order of places by their names.
use Rattle.std.proofs.Common.{◌≡◌, ◌&&◌, [], ◌∷◌, Bool, true, false, refl, ap}
use Rattle.std.specs.Cmp.{IsTotalOrder}
use Rattle.std.specs.Ordering.{is_lt, ordering_reverse}
use Rattle.std.specs.declared.cmp.Ordering.{Ordering}
use Rattle.std.specs.declared.cmp.Ordering.TheVariants.{Less, Equal, Greater}
use Rattle.std.proofs.lemmas.Cmp.{nat_list_cmp_total, lists_total}
use Rattle.tokei_folders.specs.Tree.{Names, Tree, names_cmp, is_before, is_first}

pub names_total : IsTotalOrder names_cmp
names_total = lists_total nat_list_cmp_total

pub left_of_and : (a b : Bool) → (a && b) ≡ true → a ≡ true
left_of_and true b e = refl
left_of_and false b e = e

pub right_of_and : (a b : Bool) → (a && b) ≡ true → b ≡ true
right_of_and true b e = e
right_of_and false b e = absurd (cc)

pub both : (a b : Bool) → a ≡ true → b ≡ true → (a && b) ≡ true
both true b e f = f
both false b e f = absurd (cc)

pub is_less : (o : Ordering) → is_lt o ≡ true → o ≡ Less
is_less Less e = refl
is_less Equal e = absurd (cc)
is_less Greater e = absurd (cc)

pub before_trans : (a b c : Names) → is_before a b ≡ true → is_before b c ≡ true → is_before a c ≡ true
before_trans a b c h k = ap is_lt (names_total.trans a b c (is_less (names_cmp a b) h) (is_less (names_cmp b c) k))

-- what stands before the first place stands before all
pub first_trans : (a b : Names) (t : Tree) → is_before a b ≡ true → is_first b t ≡ true → is_first a t ≡ true
first_trans a b [] h k = refl
first_trans a b (e ∷ t) h k =
    both (is_before a e.names) (is_first a t)
    (before_trans a b e.names h (left_of_and (is_before b e.names) (is_first b t) k))
    (first_trans a b t h (right_of_and (is_before b e.names) (is_first b t) k))

reversed : (o p : Ordering) → o ≡ ordering_reverse p → o ≡ Greater → is_lt p ≡ true
reversed o Less h e = refl
reversed o Equal h e = absurd (cc)
reversed o Greater h e = absurd (cc)

pub greater_after : (a b : Names) → names_cmp a b ≡ Greater → is_before b a ≡ true
greater_after a b e = reversed (names_cmp a b) (names_cmp b a) (names_total.antisymm a b) e
