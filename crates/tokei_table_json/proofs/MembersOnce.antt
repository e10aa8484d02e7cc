-- An object has each key once, so a test of the member at a key is one of all members at that key.
use Rattle.std.proofs.Common.{◌≡◌, ℕ, List, [], ◌∷◌, Bool, true, false, ◌&&◌, cond, Option, Some, Ordering, Less, Equal, Greater}
use Rattle.std.proofs.Common.{bytes_eq, refl, sym, ap, ◌∙◌, true≢false, is_eq, subst}
use Rattle.std.proofs.lemmas.Cmp.{nat_list_cmp_total, tied_itself}
use Rattle.std.proofs.lemmas.Map.Text.{is_eq-slice_cmp}
use Rattle.std.proofs.lemmas.Slice.Eq.{bytes_eq-Decides}
use Rattle.std.specs.Cmp.Lexicographic.{slice_cmp}
use Rattle.std.specs.List.{AllByRecursion}
use Rattle.std.specs.List.Sorted.{IsStrictlySortedBy}
use Rattle.std.specs.Ordering.{nat_cmp, match_ordering}
use Rattle.json.specs.Json as json
use Rattle.serde_json.specs.Data.{Data, Members, no_members, member}
use Rattle.serde_json.specs.Find.{get_member}
use Rattle.tokei_json_tree.specs.Ordered.{AreKeysInOrder, keys_of as keys_in}
use Rattle.tokei_json_tree.specs.TreeData.{members_data}
use Rattle.tokei_json_tree.specs.Shapes.{absent_or}
use Rattle.tokei_table_json.specs.MemberLayout.{all_members}

-- the keys of an object's members
abbrev pub member_keys : Members → List (List ℕ)
member_keys no_members = []
member_keys (member k d ms) = k ∷ member_keys ms

-- they ascend in byte order
abbrev pub AreInOrder : Members → Type 0
AreInOrder ms = IsStrictlySortedBy (slice_cmp nat_cmp) (member_keys ms)

-- the key of a member stands at none of those behind it
abbrev pub Others : List ℕ → Members → Type 0
Others c no_members = Unit {0}
Others c (member k d ms) = (bytes_eq k c ≡ false) × Others c ms

same_keys : (ms : json.Members) → keys_in ms ≡ member_keys (members_data ms)
same_keys json.no_members = refl
same_keys (json.member k j ms) = ap (λ ks. k ∷ ks) (same_keys ms)

-- the members that a tree's stand for
pub in_order : (ms : json.Members) → AreKeysInOrder ms → AreInOrder (members_data ms)
in_order ms s = subst (λ ks. IsStrictlySortedBy (slice_cmp nat_cmp) ks) (same_keys ms) s

not_true : (b : Bool) → (b ≡ true → ⊥) → b ≡ false
not_true true un = absurd (un refl)
not_true false un = refl

same : (k c : List ℕ) → bytes_eq k c ≡ true → k ≡ c
same k c e = (bytes_eq-Decides k c).0 e

itself : (k c : List ℕ) → k ≡ c → bytes_eq k c ≡ true
itself k c e = (bytes_eq-Decides k c).1 e

other : (k l c : List ℕ) → slice_cmp nat_cmp k l ≡ Less → k ≡ c → bytes_eq l c ≡ false
other k l c less e =
    not_true (bytes_eq l c) (λ t. true≢false (sym (itself k l (e ∙ sym (same l c t)))
    ∙ sym (is_eq-slice_cmp k l) ∙ ap is_eq less))

others_of : (k c : List ℕ) (ms : Members) → k ≡ c
    → AllByRecursion (λ y. slice_cmp nat_cmp k y ≡ Less) (member_keys ms) → Others c ms
others_of k c no_members e h = tt
others_of k c (member l d ms) e h = (other k l c h.0 e, others_of k c ms e h.1)

-- what follows the first member, whose key is that one
pub others_behind : (c k : List ℕ) (d : Data) (ms : Members) → AreInOrder (member k d ms)
    → bytes_eq k c ≡ true → Others c ms
unfolding IsStrictlySortedBy
others_behind c k d ms s b = others_of k c ms (same k c b) s.0

pub order_behind : (k : List ℕ) (d : Data) (ms : Members) → AreInOrder (member k d ms) → AreInOrder ms
unfolding IsStrictlySortedBy
order_behind k d ms s = s.1

apart : (o : Ordering) (a b : Option Data) → is_eq o ≡ false → match_ordering o a b a ≡ a
apart Less a b e = refl
apart Equal a b e = absurd (true≢false e)
apart Greater a b e = refl

pub found_here : (c k : List ℕ) (d : Data) (ms : Members) → bytes_eq k c ≡ true
    → get_member c (member k d ms) ≡ Some d
found_here c k d ms b =
    ap (λ o. match_ordering o (get_member c ms) (Some d) (get_member c ms))
    (ap (slice_cmp nat_cmp c) (same k c b) ∙ tied_itself nat_list_cmp_total c)

pub found_behind : (c k : List ℕ) (d : Data) (ms : Members) → bytes_eq k c ≡ false
    → get_member c (member k d ms) ≡ get_member c ms
found_behind c k d ms b =
    apart (slice_cmp nat_cmp c k) (get_member c ms) (Some d) (is_eq-slice_cmp c k
    ∙ not_true (bytes_eq c k) (λ t. true≢false (sym (itself k c (sym (same c k t))) ∙ b)))

swap : (x y z : Bool) → (x && (y && z)) ≡ (y && (x && z))
swap true y z = refl
swap false true z = refl
swap false false z = refl

both : (x y z w : Bool) → ((x && y) && (z && w)) ≡ ((x && z) && (y && w))
both true true z w = refl
both true false true w = refl
both true false false w = refl
both false y z w = refl

pub and_true : (b : Bool) → (b && true) ≡ b
and_true true = refl
and_true false = refl

pub all_true : (ms : Members) → all_members (λ k d. true) ms ≡ true
all_true no_members = refl
all_true (member k d ms) = all_true ms

-- two tests of all members
pub all_both : (p q : List ℕ → Data → Bool) (ms : Members)
    → all_members (λ k d. p k d && q k d) ms ≡ (all_members p ms && all_members q ms)
all_both p q no_members = refl
all_both p q (member k d ms) =
    ap (λ b. (p k d && q k d) && b) (all_both p q ms)
    ∙ both (p k d) (q k d) (all_members p ms) (all_members q ms)

-- a test of the member at a key, and of all other members another one, which that key passes
module _ (c : List ℕ) (t : Data → Bool) (q : List ℕ → Data → Bool) (clear : (d : Data) → q c d ≡ true) where
  abbrev first : List ℕ → Data → Bool
  first k d = cond (bytes_eq k c) (t d) (q k d)

  none_here : (ms : Members) → Others c ms → all_members first ms ≡ all_members q ms
  none_here no_members h = refl
  none_here (member k d ms) h =
      ap (λ b. cond b (t d) (q k d) && all_members first ms) h.0
      ∙ ap (λ b. q k d && b) (none_here ms h.1)

  step : (k : List ℕ) (d : Data) (ms : Members) → AreInOrder (member k d ms)
      → all_members first ms ≡ (absent_or t (get_member c ms) && all_members q ms)
      → (b : Bool) → bytes_eq k c ≡ b
      → all_members first (member k d ms)
      ≡ (absent_or t (get_member c (member k d ms)) && all_members q (member k d ms))
  step k d ms s later true b =
      let rest = all_members q ms in
      ap (λ x. cond x (t d) (q k d) && all_members first ms) b
      ∙ ap (λ x. t d && x) (none_here ms (others_behind c k d ms s b))
      ∙ ap (λ x. t d && (x && rest)) (sym (ap (λ l. q l d) (same k c b) ∙ clear d))
      ∙ ap (λ o. absent_or t o && (q k d && rest)) (sym (found_here c k d ms b))
  step k d ms s later false b =
      let rest = all_members q ms in
      ap (λ x. cond x (t d) (q k d) && all_members first ms) b
      ∙ ap (λ x. q k d && x) later
      ∙ swap (q k d) (absent_or t (get_member c ms)) rest
      ∙ ap (λ o. absent_or t o && (q k d && rest)) (sym (found_behind c k d ms b))

  pub at_key : (ms : Members) → AreInOrder ms
      → all_members (λ k d. cond (bytes_eq k c) (t d) (q k d)) ms
      ≡ (absent_or t (get_member c ms) && all_members q ms)
  at_key no_members s = refl
  at_key (member k d ms) s = step k d ms s (at_key ms (order_behind k d ms s)) (bytes_eq k c) refl

-- the same where all other members pass
pub last_key : (c : List ℕ) (t : Data → Bool) (ms : Members) → AreInOrder ms
    → all_members (λ k d. cond (bytes_eq k c) (t d) true) ms ≡ absent_or t (get_member c ms)
last_key c t ms s =
    at_key c t (λ k d. true) (λ d. refl) ms s
    ∙ ap (λ b. absent_or t (get_member c ms) && b) (all_true ms)
    ∙ and_true (absent_or t (get_member c ms))
