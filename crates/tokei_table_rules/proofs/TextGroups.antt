-- The places of all groups are put into one list, one group after the other.
use Rattle.std.proofs.Common.{◌≡◌, ◌≢◌, ℕ, zero, suc, ◌+◌, ◌-◌, ◌<◌, ◌≤◌, eqb, ltb, Bool, true, false, cond, List, [], ◌∷◌}
use Rattle.std.proofs.Common.{◌++◌, length, get_or, set, take, drop, inl, inr, refl, sym, ap, ◌∙◌, subst, arith, true≢false}
use Rattle.std.proofs.Common.{append_assoc, append-nil, replicate, get_or-set_other, get_or-set_same, length-drop}
use Rattle.std.proofs.lemmas.Bool.{cases_lt}
use Rattle.std.proofs.lemmas.Bool.Decides.{Decides-eqb, nat_tests}
use Rattle.std.proofs.lemmas.Grind.{get_or_default_zero}
use Rattle.std.proofs.lemmas.List.{at_drop_more, at_drop_all, drop-set-lt, drop-set-add, length-set, length-replicate, get_or-replicate, take-set-le, take_more_set}
use Rattle.std.specs.List.{slice_range}
use Rattle.tokei_table_rules.specs.TextIndex.{in_group, begin_of, begin_at, parts_from, AreGroups, AreEnds, HasForEach}

-- one entry more is counted for its own group, and for the beginning of each later one
counted : (x g p : ℕ) (ps : List ℕ) (n m : ℕ) → n ≡ m + length ps
    → cond (ltb x (g + 1)) (n + 1) n ≡ cond (ltb x g) (m + 1) m + length (cond (eqb x g) (p ∷ ps) ps)
counted x g p ps n m e = grind (arith, nat_tests)

begin_next : (g : ℕ) (es : List (ℕ × ℕ)) → begin_of (g + 1) es ≡ begin_of g es + length (in_group g es)
begin_next g [] = refl
begin_next g (e ∷ es) = counted e.0 g e.1 (in_group g es) (begin_of (g + 1) es) (begin_of g es) (begin_next g es)

no_fewer : (x g h n m : ℕ) → g ≤ h → n ≤ m → cond (ltb x g) (n + 1) n ≤ cond (ltb x h) (m + 1) m
no_fewer x g h n m l e = grind (arith, nat_tests)

begin_up : (g h : ℕ) (es : List (ℕ × ℕ)) → g ≤ h → begin_of g es ≤ begin_of h es
begin_up g h [] l = omega arith
begin_up g h (e ∷ es) l = no_fewer e.0 g h (begin_of g es) (begin_of h es) l (begin_up g h es l)

at_most : (b : Bool) (n m : ℕ) → n ≤ m → cond b (n + 1) n ≤ suc m
at_most true n m l = omega arith
at_most false n m l = omega arith

begin_within : (g : ℕ) (es : List (ℕ × ℕ)) → begin_of g es ≤ length es
begin_within g [] = omega arith
begin_within g (e ∷ es) = at_most (ltb e.0 g) (begin_of g es) (length es) (begin_within g es)

none_below : (x n : ℕ) → n ≡ 0 → cond (ltb x 0) (n + 1) n ≡ 0
none_below x n e = grind (arith, nat_tests)

begin_first : (es : List (ℕ × ℕ)) → begin_of 0 es ≡ 0
begin_first [] = refl
begin_first (e ∷ es) = none_below e.0 (begin_of 0 es) (begin_first es)

-- where a group ends is within the list
end_within : (g : ℕ) (es : List (ℕ × ℕ)) → begin_of g es + length (in_group g es) ≤ length es
end_within g es = omega (arith, begin_next g es, begin_within (g + 1) es)

end_before : (g h : ℕ) (es : List (ℕ × ℕ)) → g < h → begin_of g es + length (in_group g es) ≤ begin_of h es
end_before g h es l = let u = begin_up (g + 1) h es (omega arith) in omega (arith, begin_next g es, u)

-- an entry belongs to its own group, and to no other
in_own : (k p : ℕ) (es : List (ℕ × ℕ)) → in_group k ((k, p) ∷ es) ≡ p ∷ in_group k es
in_own k p es = ap (λ b. cond b (p ∷ in_group k es) (in_group k es)) ((Decides-eqb k k).1 refl)

in_other : (g k p : ℕ) (es : List (ℕ × ℕ)) → g ≢ k → in_group g ((k, p) ∷ es) ≡ in_group g es
in_other g k p es ne = ap (λ b. cond b (p ∷ in_group g es) (in_group g es)) (differ (eqb k g) refl)
  where
    differ : (b : Bool) → eqb k g ≡ b → b ≡ false
    differ true q = absurd (ne (sym ((Decides-eqb k g).0 q)))
    differ false q = refl

-- what holds of one number, and of all others, holds of each
of_each : (P : ℕ → Type 0) (k : ℕ) → P k → ((g : ℕ) → g ≢ k → P g) → (g : ℕ) → P g
of_each P k own others g = chosen (eqb g k) refl
  where
    chosen : (b : Bool) → eqb g k ≡ b → P g
    chosen true q = subst P (sym ((Decides-eqb g k).0 q)) own
    chosen false q = others g (λ e. true≢false (sym ((Decides-eqb g k).1 e) ∙ q))

-- a range of a list of which one item is set: the item behind the range, and further away
range_more : (xs : List ℕ) (b c p : ℕ) → b ≤ c → c < length xs
    → slice_range (set xs c p) b (c + 1) ≡ slice_range xs b c ++ p ∷ []
range_more xs b c p up l =
    let i = c - b in
    let at : b + i ≡ c = omega arith in
    let more : c + 1 - b ≡ i + 1 = omega arith in
    ap (λ n. take n (drop b (set xs c p))) more
    ∙ ap (λ k. take (i + 1) (drop b (set xs k p))) (sym at)
    ∙ ap (take (i + 1)) (drop-set-add b xs i p)
    ∙ take_more_set (drop b xs) i p (omega (arith, length-drop b xs))

range_before : (xs : List ℕ) (b c d p : ℕ) → b ≤ d → d ≤ c → slice_range (set xs c p) b d ≡ slice_range xs b d
range_before xs b c d p up l =
    let i = c - b in
    let at : b + i ≡ c = omega arith in
    ap (λ k. take (d - b) (drop b (set xs k p))) (sym at)
    ∙ ap (take (d - b)) (drop-set-add b xs i p)
    ∙ take-set-le (d - b) (drop b xs) i p (omega arith)

range_after : (xs : List ℕ) (b c d p : ℕ) → c < b → slice_range (set xs c p) b d ≡ slice_range xs b d
range_after xs b c d p l = ap (take (d - b)) (drop-set-lt b xs c p l)

-- A group's places so far lie from its begin to its cursor, with room behind for those to come.
pub record IsReached (entries later : List (ℕ × ℕ)) (places : List ℕ) (g cursor : ℕ) : Type 0 where
  pub begun : begin_of g entries ≤ cursor
  pub room : cursor + length (in_group g later) ≡ begin_of g entries + length (in_group g entries)
  pub come : slice_range places (begin_of g entries) cursor ++ in_group g later ≡ in_group g entries

module _ (entries later : List (ℕ × ℕ)) (places : List ℕ) (k p : ℕ) where
  -- an entry's place is put where its own group has come to
  cursor_within : (c : ℕ) → IsReached entries ((k, p) ∷ later) places k c → c < length entries
  cursor_within c r = omega (arith, r.room, ap length (in_own k p later), end_within k entries)

  own_put : (c : ℕ) → length places ≡ length entries → IsReached entries ((k, p) ∷ later) places k c
      → IsReached entries later (set places c p) k (c + 1)
  own_put c full r =
      let b = begin_of k entries in
      let lt : c < length places = omega (arith, cursor_within c r) in
      record {
        begun = omega (arith, r.begun);
        room = omega (arith, r.room, ap length (in_own k p later));
        come =
            ap (λ ps. ps ++ in_group k later) (range_more places b c p r.begun lt)
            ∙ append_assoc (slice_range places b c) (p ∷ []) (in_group k later)
            ∙ ap (λ ps. slice_range places b c ++ ps) (sym (in_own k p later))
            ∙ r.come;
      }

  -- which changes nothing of the other groups
  other_put : (g c d : ℕ) → g ≢ k → IsReached entries ((k, p) ∷ later) places k c
      → IsReached entries ((k, p) ∷ later) places g d → IsReached entries later (set places c p) g d
  other_put g c d ne own r =
      let b = begin_of g entries in
      let same = in_other g k p later ne in
      let unmoved : slice_range (set places c p) b d ≡ slice_range places b d = elim (cases_lt g k) [
        | inl l ↦ range_before places b c d p r.begun (omega (arith, r.room, own.begun, end_before g k entries l))
        | inr l ↦ range_after places b c d p
            (let lt : k < g = omega (arith, ne) in
            omega (arith, own.room, ap length (in_own k p later), end_before k g entries lt))
      ] in
      record {
        begun = r.begun;
        room = ap (λ ps. d + length ps) (sym same) ∙ r.room;
        come =
            ap (λ ps. ps ++ in_group g later) unmoved
            ∙ ap (λ ps. slice_range places b d ++ ps) (sym same)
            ∙ r.come;
      }

-- The same of all groups: those of the later entries are still to come.
pub record AreReached (entries later : List (ℕ × ℕ)) (cursors places : List ℕ) : Type 0 where
  pub all : length cursors ≡ 256
  pub full : length places ≡ length entries
  pub each : (g : ℕ) → g < 256 → IsReached entries later places g (get_or cursors g 0)

pub none_put : (entries : List (ℕ × ℕ)) (begins places : List ℕ) → HasForEach (λ g. begin_of g entries) begins
    → length places ≡ length entries → AreReached entries entries begins places
none_put entries begins places begin full = record {
  all = begin.all;
  full = full;
  each = λ g below. subst (IsReached entries entries places g) (sym (begin.each g below)) (none g);
}
  where
    none : (g : ℕ) → IsReached entries entries places g (begin_of g entries)
    none g =
        let b = begin_of g entries in
        let nothing : b - b ≡ 0 = omega arith in
        record {
          begun = omega arith;
          room = refl;
          come = ap (λ n. take n (drop b places) ++ in_group g entries) nothing;
        }

one_put : (entries later : List (ℕ × ℕ)) (cursors places : List ℕ) (k p : ℕ) → k < 256
    → AreReached entries ((k, p) ∷ later) cursors places
    → AreReached entries later (set cursors k (get_or cursors k 0 + 1)) (set places (get_or cursors k 0) p)
one_put entries later cursors places k p below r =
    let c = get_or cursors k 0 in
    let own = r.each k below in
    record {
      all = length-set cursors k (c + 1) ∙ r.all;
      full = length-set places c p ∙ r.full;
      each = of_each (λ g. g < 256 → IsReached entries later (set places c p) g (get_or (set cursors k (c + 1)) g 0)) k
          (λ l. subst (IsReached entries later (set places c p) k)
          (sym (get_or-set_same cursors k (c + 1) 0 (omega (arith, r.all))))
          (own_put entries later places k p c r.full own))
          (λ g ne l. subst (IsReached entries later (set places c p) g)
          (sym (get_or-set_other cursors k g (c + 1) 0 ne))
          (other_put entries later places k p g c (get_or cursors g 0) ne own (r.each g l)));
    }

-- the entry at an index is the next one
item_next : (entries : List (ℕ × ℕ)) (i : ℕ) → i < length entries
    → drop i entries ≡ get_or entries i (0, 0) ∷ drop (i + 1) entries
item_next entries i l = at_drop_more (λ rest. rest) entries i (0, 0) l

read : (xs : List ℕ) (k c : ℕ) → length xs ≡ 256 → k < 256 → c ≡ get_or xs k c → c ≡ get_or xs k 0
read xs k c all below is = is ∙ get_or_default_zero xs k c (omega (arith, all, below))

module _ (entries : List (ℕ × ℕ)) (ends places : List ℕ) (i k : ℕ) (l : i < length entries)
    (r : AreReached entries (drop i entries) ends places) (is : k ≡ (get_or entries i (0, 0)).0) (below : k < 256) where
  own_next : AreReached entries ((k, (get_or entries i (0, 0)).1) ∷ drop (i + 1) entries) ends places
  own_next =
      subst (λ n. AreReached entries ((n, (get_or entries i (0, 0)).1) ∷ drop (i + 1) entries) ends places) (sym is)
      (subst (λ rest. AreReached entries rest ends places) (item_next entries i l) r)

  pub item_within : (c : ℕ) → c ≡ get_or ends k c → c < length entries
  item_within c at =
      let e = read ends k c r.all below at in
      let own = own_next.each k below in
      omega (arith, e, cursor_within entries (drop (i + 1) entries) places k (get_or entries i (0, 0)).1 (get_or ends k 0) own)

  pub item_put : (c d : ℕ) → c ≡ get_or ends k c → d ≡ get_or ends k d
      → AreReached entries (drop (i + 1) entries) (set ends k (d + 1)) (set places c (get_or entries i (0, 0)).1)
  item_put c d at old =
      let later = drop (i + 1) entries in
      let p = (get_or entries i (0, 0)).1 in
      subst (λ n. AreReached entries later (set ends k (d + 1)) (set places n p)) (sym (read ends k c r.all below at))
      (subst (λ n. AreReached entries later (set ends k (n + 1)) (set places (get_or ends k 0) p))
      (sym (read ends k d r.all below old)) (one_put entries later ends places k p below own_next))

-- where a group begins, by where the one before ends
begin_after : (entries : List (ℕ × ℕ)) (ends places : List ℕ) → AreReached entries [] ends places
    → (g : ℕ) → g < 256 → begin_at ends g ≡ begin_of g entries
begin_after entries ends places r zero below = sym (begin_first entries)
begin_after entries ends places r (suc g) below =
    let e : suc g ≡ g + 1 = omega arith in
    let f : get_or ends g 0 ≡ begin_of g entries + length (in_group g entries) = omega (arith, (r.each g (omega arith)).room) in
    f ∙ sym (begin_next g entries) ∙ ap (λ n. begin_of n entries) (sym e)

length-parts : (b : ℕ) (ends places : List ℕ) → length (parts_from b ends places) ≡ length ends
length-parts b [] places = refl
length-parts b (e ∷ ends) places = ap suc (length-parts e ends places)

-- a part by its number
part_behind : (b : ℕ) (ends places : List ℕ) (g : ℕ) → suc g < length ends
    → get_or (parts_from b ends places) (suc g) [] ≡ slice_range places (get_or ends g 0) (get_or ends (suc g) 0)
part_behind b [] places g l = absurd (omega (arith, l))
part_behind b (e ∷ []) places g l = absurd (omega (arith, l))
part_behind b (e ∷ f ∷ ends) places zero l = refl
part_behind b (e ∷ f ∷ ends) places (suc g) l = part_behind e (f ∷ ends) places g (omega (arith, l))

part_at : (ends places : List ℕ) (g : ℕ) → g < length ends
    → get_or (parts_from 0 ends places) g [] ≡ slice_range places (begin_at ends g) (get_or ends g 0)
part_at [] places g l = absurd (omega (arith, l))
part_at (e ∷ ends) places zero l = refl
part_at (e ∷ ends) places (suc g) l = part_behind 0 (e ∷ ends) places g l

pub all_put : (entries : List (ℕ × ℕ)) (ends places : List ℕ) → AreReached entries [] ends places
    → AreGroups entries (parts_from 0 ends places)
all_put entries ends places r = record {
  all = length-parts 0 ends places ∙ r.all;
  each = λ g below.
      part_at ends places g (omega (arith, r.all))
      ∙ ap (λ b. slice_range places b (get_or ends g 0)) (begin_after entries ends places r g below)
      ∙ sym (append-nil (slice_range places (begin_of g entries) (get_or ends g 0)))
      ∙ (r.each g below).come;
}

pub ends_put : (entries : List (ℕ × ℕ)) (ends places : List ℕ) → AreReached entries [] ends places
    → AreEnds ends places
ends_put entries ends places r = record {
  all = r.all;
  ascend = λ g below. omega (arith, begin_after entries ends places r g below, (r.each g below).begun);
  within = λ g below. omega (arith, (r.each g below).room, end_within g entries, r.full);
}

-- The counts of the entries so far, with those that are still to come.
pub record AreCounted (entries later : List (ℕ × ℕ)) (counts : List ℕ) : Type 0 where
  pub all : length counts ≡ 256
  pub each : (g : ℕ) → g < 256 → get_or counts g 0 + length (in_group g later) ≡ length (in_group g entries)

-- before the first entry is counted, each count is 0
pub none_counted : (entries : List (ℕ × ℕ)) (counts : List ℕ) → counts ≡ replicate 256 0 → AreCounted entries entries counts
none_counted entries counts is = record {
  all = ap length is ∙ length-replicate {A = ℕ} 256 0;
  each = λ g below.
      let none = ap (λ ns. get_or ns g 0) is ∙ get_or-replicate {A = ℕ} 256 g 0 0 below in
      omega (arith, none);
}

module _ (entries : List (ℕ × ℕ)) (counts : List ℕ) (i k c : ℕ) (l : i < length entries)
    (r : AreCounted entries (drop i entries) counts) (is : k ≡ (get_or entries i (0, 0)).0) (below : k < 256)
    (at : c ≡ get_or counts k c) where
  own_count : c + suc (length (in_group k (drop (i + 1) entries))) ≡ length (in_group k entries)
  own_count =
      let later = drop (i + 1) entries in
      let p = (get_or entries i (0, 0)).1 in
      let more = ap (λ rest. length (in_group k rest)) (item_next entries i l)
      ∙ ap (λ n. length (in_group k ((n, p) ∷ later))) (sym is) ∙ ap length (in_own k p later) in
      omega (arith, read counts k c r.all below at, r.each k below, more)

  other_count : (g : ℕ) → g ≢ k → in_group g (drop i entries) ≡ in_group g (drop (i + 1) entries)
  other_count g ne =
      let later = drop (i + 1) entries in
      let p = (get_or entries i (0, 0)).1 in
      ap (in_group g) (item_next entries i l)
      ∙ ap (λ n. in_group g ((n, p) ∷ later)) (sym is)
      ∙ in_other g k p later ne

  pub count_within : c < length entries
  count_within = omega (arith, own_count, end_within k entries)

  pub item_counted : AreCounted entries (drop (i + 1) entries) (set counts k (c + 1))
  item_counted =
      let later = drop (i + 1) entries in
      record {
        all = length-set counts k (c + 1) ∙ r.all;
        each = of_each
            (λ g. g < 256 → get_or (set counts k (c + 1)) g 0 + length (in_group g later) ≡ length (in_group g entries)) k
            (λ b. let e = get_or-set_same counts k (c + 1) 0 (omega (arith, r.all)) in omega (arith, e, own_count))
            (λ g ne b.
            ap (λ n. n + length (in_group g later)) (get_or-set_other counts k g (c + 1) 0 ne)
            ∙ ap (λ ps. get_or counts g 0 + length ps) (sym (other_count g ne))
            ∙ r.each g b);
      }

pub all_counted : (entries : List (ℕ × ℕ)) (counts : List ℕ) (i : ℕ) → length entries ≤ i
    → AreCounted entries (drop i entries) counts → HasForEach (λ g. length (in_group g entries)) counts
all_counted entries counts i l r = record {
  all = r.all;
  each = λ g below.
      let none = at_drop_all (λ rest. length (in_group g rest)) entries i l in
      omega (arith, r.each g below, none);
}

-- The first counts have become begins.
pub record AreSummed (entries : List (ℕ × ℕ)) (i end : ℕ) (numbers : List ℕ) : Type 0 where
  pub all : length numbers ≡ 256
  pub reached : end ≡ begin_of i entries
  pub begun : (g : ℕ) → g < i → get_or numbers g 0 ≡ begin_of g entries
  pub counts : (g : ℕ) → i ≤ g → g < 256 → get_or numbers g 0 ≡ length (in_group g entries)

pub none_summed : (entries : List (ℕ × ℕ)) (numbers : List ℕ)
    → HasForEach (λ g. length (in_group g entries)) numbers → AreSummed entries 0 0 numbers
none_summed entries numbers counts = record {
  all = counts.all;
  reached = sym (begin_first entries);
  begun = λ g l. absurd (omega (arith, l));
  counts = λ g l below. counts.each g below;
}

module _ (entries : List (ℕ × ℕ)) (numbers : List ℕ) (i end c : ℕ) (l : i < 256)
    (r : AreSummed entries i end numbers) (at : c ≡ get_or numbers i c) where
  next_end : end + c ≡ begin_of (i + 1) entries
  next_end = omega (arith, r.reached, read numbers i c r.all l at, r.counts i (omega arith) l, begin_next i entries)

  pub sum_within : end + c ≤ length entries
  sum_within = omega (arith, next_end, begin_within (i + 1) entries)

  pub one_summed : AreSummed entries (i + 1) (end + c) (set numbers i end)
  one_summed = record {
    all = length-set numbers i end ∙ r.all;
    reached = next_end;
    begun = of_each (λ g. g < i + 1 → get_or (set numbers i end) g 0 ≡ begin_of g entries) i
        (λ b. get_or-set_same numbers i end 0 (omega (arith, r.all)) ∙ r.reached)
        (λ g ne b. get_or-set_other numbers i g end 0 ne ∙ r.begun g (omega (arith, ne, b)));
    counts = λ g up b.
        let ne : g ≢ i = omega (arith, up) in
        get_or-set_other numbers i g end 0 ne ∙ r.counts g (omega (arith, up)) b;
  }

pub all_summed : (entries : List (ℕ × ℕ)) (numbers : List ℕ) (i end : ℕ) → 256 ≤ i
    → AreSummed entries i end numbers → HasForEach (λ g. begin_of g entries) numbers
all_summed entries numbers i end l r = record {
  all = r.all;
  each = λ g below. r.begun g (omega arith);
}

-- a group's part as the code reads it, whose begin is 0 for the first, and the end before for others
pub begin_first_part : (ends : List ℕ) (g b : ℕ) → g ≡ 0 → b ≡ 0 → b ≡ begin_at ends g
begin_first_part ends zero b e is = is
begin_first_part ends (suc g) b e is = absurd (omega (arith, e))

pub begin_later_part : (ends : List ℕ) (g b : ℕ) → length ends ≡ 256 → g < 256 → g ≢ 0
    → b ≡ get_or ends (g - 1) b → b ≡ begin_at ends g
begin_later_part ends zero b all below ne is = absurd (ne refl)
begin_later_part ends (suc g) b all below ne is =
    let e : suc g - 1 ≡ g = omega arith in
    read ends g b all (omega (arith, below)) (is ∙ ap (λ n. get_or ends n b) e)

pub part_bounds : (ends places : List ℕ) (g b e : ℕ) → g < 256 → AreEnds ends places → b ≡ begin_at ends g
    → e ≡ get_or ends g e → b ≤ e
part_bounds ends places g b e below r begins is =
    omega (arith, begins, read ends g e r.all below is, r.ascend g below)

-- a group ends where places are
pub part_within : (ends places : List ℕ) (g e : ℕ) → g < 256 → AreEnds ends places → e ≡ get_or ends g e → e ≤ length places
part_within ends places g e below r is = omega (arith, read ends g e r.all below is, r.within g below)

pub part_read : (ends places : List ℕ) (g b e : ℕ) → length ends ≡ 256 → g < 256 → b ≡ begin_at ends g
    → e ≡ get_or ends g e → slice_range places b e ≡ get_or (parts_from 0 ends places) g []
part_read ends places g b e all below begins is =
    ap (λ n. slice_range places n e) begins
    ∙ ap (slice_range places (begin_at ends g)) (read ends g e all below is)
    ∙ sym (part_at ends places g (omega (arith, all)))
