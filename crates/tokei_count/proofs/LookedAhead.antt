-- What the masks of a block say of its places: which can begin an opener, and which are fronts.
use Rattle.std.proofs.Common.{◌≡◌, ℕ, zero, suc, ◌+◌, ◌-◌, ◌*◌, ◌/◌, ◌%◌, ◌^◌, ◌<◌, ◌≤◌, ◌&&◌, ◌==◌, not, cond, min, Bool, true, false, List, [], ◌∷◌, ◌++◌, map, take, drop, length, get_or, bit_and, refl, sym, ap, ap₂, subst, ◌∙◌, arith, inl, inr, length-drop}
use Rattle.std.specs.List.{list_all}
use Rattle.std.specs.Int.{bit_at}
use Rattle.std.proofs.lemmas.Bool.{cases_lt}
use Rattle.std.proofs.lemmas.List.{drop_more, get_or-drop, get_or-map, get_or-take, length-map, length-take-le, take-take}
use Rattle.std.proofs.lemmas.Nat.{and_le_r}
use Rattle.std.proofs.lemmas.Nat.Bits.{bit_at-zero, bit_at_and, bit_at_ones, shr_and_one}
use Rattle.std.proofs.lemmas.Simd.{bit_mask_l, get_or-chunk, length-chunk, mask_l-lt}
use lib.Count.{count_trailing_zeros}
use lib.Lanes.{chunk, mask_l}
use lib.Pow.{pow_mono}
use Rattle.tokei_bytes.proofs.LineSums.{told}
use Rattle.tokei_bytes.specs.Lines.{blank_after, blank_behind, flag, fronts, is_blank, newline, newline_count}
use Rattle.tokei_table_row.specs.FirstOpener.{is_first, is_nonempty}
use Rattle.tokei_table_row.specs.Bytes.{begins_with_one}
use Rattle.tokei_table.specs.Row.{Row}
use Rattle.tokei_table.specs.Slices.{between}
use Rattle.tokei_count.proofs.BlockLooks.{between_more}
use Rattle.tokei_count.proofs.SetBits.{unset_first}
use Rattle.tokei_count.specs.LineLooks.{AreTold, HasLineComment, IsClear, IsNext}
use Rattle.tokei_table_search.proofs.OpenerGroups.{not_true, starts_first}

-- what a bit of a mask says
bit_unset : (b : Bool) → flag b ≡ 0 → b ≡ false
bit_unset true h = absurd (omega (arith, h))
bit_unset false h = refl

clash : (b : Bool) → b ≡ false → b ≡ true → ⊥
clash b e y = absurd (cc)

-- no opener stands at a byte that begins none
pub none_at : (os : List (List ℕ)) (t : List ℕ) (n : ℕ) → list_all is_nonempty os ≡ true → n < length t → is_first os (get_or t n 0) ≡ false
    → begins_with_one os (drop n t) ≡ false
none_at os t n all low none =
    ap (begins_with_one os) (drop_more t n 0 low)
    ∙ not_true (begins_with_one os (get_or t n 0 ∷ drop (n + 1) t)) (λ h. clash (is_first os (get_or t n 0)) none (starts_first os (get_or t n 0) (drop (n + 1) t) all h))

-- an unset bit of a block's mask
pub unmarked : (p : ℕ → Bool) (t : List ℕ) (at k : ℕ) → at + 32 ≤ length t → k < 32 → bit_at (mask_l (map p (chunk at 32 t))) k ≡ 0 → p (get_or t (at + k) 0) ≡ false
unmarked p t at k room low h =
    let v : List ℕ = chunk at 32 t in
    let inside : k < length v = omega (arith, low, length-chunk at 32 t room) in
    ap p (sym (get_or-chunk at 32 t k 0 low)) ∙ sym (get_or-map p v k 0 false inside)
    ∙ bit_unset (get_or (map p v) k false) (sym (bit_mask_l (map p v) k) ∙ h)

-- what a set one is
pub marked_bit : (p : ℕ → Bool) (t : List ℕ) (at k : ℕ) → at + 32 ≤ length t → k < 32 → p (get_or t (at + k) 0) ≡ true → bit_at (mask_l (map p (chunk at 32 t))) k ≡ 1
marked_bit p t at k room low h =
    let v : List ℕ = chunk at 32 t in
    let inside : k < length v = omega (arith, low, length-chunk at 32 t room) in
    bit_mask_l (map p v) k ∙ ap (λ b. cond b 1 0) (get_or-map p v k 0 false inside ∙ ap p (get_or-chunk at 32 t k 0 low) ∙ h)

-- whether a byte is its line's front
front_at : (v : List ℕ) (x : Bool) (k : ℕ) → k < length v → get_or (fronts x v) k false ≡ (blank_after x (take k v) && not (is_blank (get_or v k 0)))
front_at [] x k low = absurd (omega (arith, low))
front_at (b ∷ t) x zero low = refl
front_at (b ∷ t) x (suc k) low = front_at t (blank_behind x b) k (omega (arith, low))

pub blank_over : (u v : List ℕ) (x : Bool) → blank_after x (u ++ v) ≡ blank_after (blank_after x u) v
blank_over [] v x = refl
blank_over (b ∷ u) v x = blank_over u v (blank_behind x b)

-- the bit of a front
pub front_bit : (t : List ℕ) (x : Bool) (at k : ℕ) → at + 32 ≤ length t → k < 32 → blank_after x (take k (chunk at 32 t)) ≡ true → is_blank (get_or t (at + k) 0) ≡ false
    → bit_at (mask_l (fronts x (chunk at 32 t))) k ≡ 1
front_bit t x at k room low blank solid =
    let v : List ℕ = chunk at 32 t in
    let inside : k < length v = omega (arith, low, length-chunk at 32 t room) in
    bit_mask_l (fronts x v) k
    ∙ ap (λ b. cond b 1 0) (front_at v x k inside ∙ ap₂ (λ a b. a && not b) blank (ap is_blank (get_or-chunk at 32 t k 0 low) ∙ solid))

module _ (row : Row) (is_mark : ℕ → Bool) (text : List ℕ) (start at gap blank : ℕ) (low : start ≤ at) (room : at + 32 ≤ length text) (few : gap ≤ 32)
    (blank_is : (blank == 1) ≡ blank_after true (between text start at)) where
  -- what a block leaves of the line that goes on behind it
  pub blank_on : (carried : ℕ) → carried ≡ flag (blank_after (blank == 1) (chunk at 32 text)) → (carried == 1) ≡ blank_after true (between text start (at + 32))
  blank_on carried is =
      ap (λ n. n == 1) is ∙ told (blank_after (blank == 1) (chunk at 32 text))
      ∙ ap (λ x. blank_after x (chunk at 32 text)) blank_is
      ∙ sym (ap (blank_after true) (between_more text start at 32 low) ∙ blank_over (between text start at) (chunk at 32 text) true)

  -- a front of the block has its bit, and a marked one is a line comment
  pub told_on : (f m : ℕ) → f ≡ mask_l (fronts (blank == 1) (chunk at 32 text)) → m ≡ mask_l (map is_mark (chunk at 32 text))
      → AreTold row is_mark text start at → ((k : ℕ) → k < 32 → bit_at (bit_and (bit_and f (2 ^ gap - 1)) m) k ≡ 1 → HasLineComment row text (at + k))
      → AreTold row is_mark text start (at + gap)
  told_on f m fs ms so_far each = λ p a h front marked. elim (cases_lt p at) [
    | inl b ↦ so_far p a b front marked
    | inr b ↦
        let k : ℕ = p - at in
        let place : at + k ≡ p = omega (arith, b) in
        let below : k < gap = omega (arith, h, b) in
        let inside : k < 32 = omega (arith, below, few) in
        let byte : get_or text (at + k) 0 ≡ get_or text p 0 = ap (λ j. get_or text j 0) place in
        let up_to : between text start p ≡ between text start at ++ take k (drop at text) = ap (between text start) (sym place) ∙ between_more text start at k low in
        let blanks : blank_after (blank == 1) (take k (chunk at 32 text)) ≡ true =
        ap (blank_after (blank == 1)) (take-take k 32 (drop at text) (omega (arith, inside)))
        ∙ ap (λ x. blank_after x (take k (drop at text))) blank_is
        ∙ sym (blank_over (between text start at) (take k (drop at text)) true) ∙ sym (ap (blank_after true) up_to) ∙ front.blank in
        let f_bit : bit_at f k ≡ 1 = ap (λ n. bit_at n k) fs ∙ front_bit text (blank == 1) at k room inside blanks (ap is_blank byte ∙ front.solid) in
        let m_bit : bit_at m k ≡ 1 = ap (λ n. bit_at n k) ms ∙ marked_bit is_mark text at k room inside (ap is_mark byte ∙ marked) in
        let set : bit_at (bit_and (bit_and f (2 ^ gap - 1)) m) k ≡ 1 =
        bit_at_and (bit_and f (2 ^ gap - 1)) m k ∙ ap (λ n. min n (bit_at m k)) (bit_at_and f (2 ^ gap - 1) k)
        ∙ omega (arith, f_bit, m_bit, bit_at_ones gap k below) in
        subst (HasLineComment row text) place (each k inside set)
  ]

-- no opener stands at any of the places behind `from`
pub clear_from : (os : List (List ℕ)) (t : List ℕ) (from n : ℕ) → ((k : ℕ) → k < n → begins_with_one os (drop (from + k) t) ≡ false) → IsClear os t from (from + n)
clear_from os t from n none p low high =
    let place : from + (p - from) ≡ p = omega (arith, low) in
    ap (λ j. begins_with_one os (drop j t)) (sym place) ∙ none (p - from) (omega (arith, low, high))

-- a look that begins
nothing_looked_at : (t : List ℕ) (s : ℕ) → between t s s ≡ []
nothing_looked_at t s = let none : s - s ≡ 0 = omega arith in ap (λ n. take n (drop s t)) none

pub clear_begun : (os : List (List ℕ)) (t : List ℕ) (s : ℕ) → IsClear os t s s
clear_begun os t s p low high = absurd (omega (arith, low, high))

-- no opener stands before a place, nor from there on before another
pub clear_on : (os : List (List ℕ)) (t : List ℕ) (s at to : ℕ) → IsClear os t s at → IsClear os t at to → IsClear os t s to
clear_on os t s at to before behind p low high = elim (cases_lt p at) [
  | inl b ↦ before p low b
  | inr b ↦ behind p b high
]

-- a mask of a block has no bits behind it
pub mask_small : (ms : List Bool) → length ms ≤ 32 → mask_l ms < 2 ^ 32
mask_small ms few = omega (arith, mask_l-lt ms, pow_mono few)

pub marks_small : (p : ℕ → Bool) (t : List ℕ) (at : ℕ) → at + 32 ≤ length t → mask_l (map p (chunk at 32 t)) < 2 ^ 32
marks_small p t at room = mask_small (map p (chunk at 32 t)) (omega (arith, length-map (chunk at 32 t) p, length-chunk at 32 t room))

-- a mask that others are taken from stays as small
pub and_small : (a m : ℕ) → m < 2 ^ 32 → bit_and a m < 2 ^ 32
and_small a m small = omega (arith, and_le_r a m, small)

-- as many bits as a block has bytes at most stay in a word
pub gap_stays : (gap : ℕ) → gap ≤ 32 → 1 * 2 ^ gap % 18446744073709551616 ≡ 2 ^ gap
gap_stays gap few = let least : 2 ^ gap ≤ 2 ^ 32 = pow_mono few in omega (arith, least)

-- no opener stands at a byte of a block whose bit isn't set
pub none_marked : (os : List (List ℕ)) (is_mark : ℕ → Bool) (text : List ℕ) (at : ℕ) → list_all is_nonempty os ≡ true → ((x : ℕ) → is_mark x ≡ false → is_first os x ≡ false)
    → at + 32 ≤ length text → (m : ℕ) → m ≡ mask_l (map is_mark (chunk at 32 text)) → (k : ℕ) → k < 32 → bit_at m k ≡ 0 → begins_with_one os (drop (at + k) text) ≡ false
none_marked os is_mark text at all none room m ms k low h =
    none_at os text (at + k) all (omega (arith, room, low))
    (none (get_or text (at + k) 0) (unmarked is_mark text at k room low (sym (ap (λ n. bit_at n k) ms) ∙ h)))

-- no bit is set of none
pub unset : (m k : ℕ) → m ≡ 0 → bit_at m k ≡ 0
unset m k none = ap (λ n. bit_at n k) none ∙ bit_at-zero k

pub unset_with : (a m k : ℕ) → m ≡ 0 → bit_at (bit_and a m) k ≡ 0
unset_with a m k none = bit_at_and a m k ∙ omega (arith, unset m k none)

-- an opener begins with a marked byte, which is no blank
solid_opener : (os : List (List ℕ)) (is_mark : ℕ → Bool) (text : List ℕ) (n : ℕ) → list_all is_nonempty os ≡ true → ((x : ℕ) → is_mark x ≡ false → is_first os x ≡ false)
    → ((x : ℕ) → is_blank x ≡ true → is_mark x ≡ false) → n < length text → begins_with_one os (drop n text) ≡ true → is_blank (get_or text n 0) ≡ false
solid_opener os is_mark text n all none blanks inside here =
    not_true (is_blank (get_or text n 0))
    (λ blank. clash (begins_with_one os (drop n text)) (none_at os text n all inside (none (get_or text n 0) (blanks (get_or text n 0) blank))) here)

-- so its bit among the fronts says whether its line had none before
pub blank_at : (os : List (List ℕ)) (is_mark : ℕ → Bool) (text : List ℕ) (start at gap blank : ℕ) → start ≤ at → at + 32 ≤ length text → (blank == 1) ≡ blank_after true (between text start at)
    → list_all is_nonempty os ≡ true → ((x : ℕ) → is_mark x ≡ false → is_first os x ≡ false)
    → ((x : ℕ) → is_blank x ≡ true → is_mark x ≡ false) → gap < 32 → begins_with_one os (drop (at + gap) text) ≡ true
    → (f : ℕ) → f ≡ mask_l (fronts (blank == 1) (chunk at 32 text))
    → (bit_and (f / 2 ^ gap) 1 == 1) ≡ blank_after true (between text start (at + gap))
blank_at os is_mark text start at gap blank low room blank_is all none blanks inside here f fs =
    let v : List ℕ = chunk at 32 text in
    let within : gap < length v = omega (arith, inside, length-chunk at 32 text room) in
    let solid : is_blank (get_or v gap 0) ≡ false =
    ap is_blank (get_or-chunk at 32 text gap 0 inside) ∙ solid_opener os is_mark text (at + gap) all none blanks (omega (arith, room, inside)) here in
    let front : get_or (fronts (blank == 1) v) gap false ≡ blank_after (blank == 1) (take gap v) =
    front_at v (blank == 1) gap within ∙ ap (λ x. blank_after (blank == 1) (take gap v) && not x) solid ∙ always (blank_after (blank == 1) (take gap v)) in
    let up_to : blank_after true (between text start (at + gap)) ≡ blank_after (blank == 1) (take gap v) =
    ap (blank_after true) (between_more text start at gap low) ∙ blank_over (between text start at) (take gap (drop at text)) true
    ∙ ap (λ x. blank_after x (take gap (drop at text))) (sym blank_is) ∙ ap (blank_after (blank == 1)) (sym (take-take gap 32 (drop at text) (omega (arith, inside)))) in
    ap (λ n. n == 1) (shr_and_one f gap ∙ ap (λ n. bit_at n gap) fs ∙ bit_mask_l (fronts (blank == 1) v) gap)
    ∙ told (get_or (fronts (blank == 1) v) gap false) ∙ front ∙ sym up_to
  where
    always : (x : Bool) → (x && true) ≡ x
    always true = refl
    always false = refl

-- an opener at the place itself
pub next_here : (os : List (List ℕ)) (t : List ℕ) (at : ℕ) → begins_with_one os (drop at t) ≡ true → IsNext os t at at
next_here os t at here = record { order = omega arith; clear = clear_begun os t at; on = ap newline_count (nothing_looked_at t at); opener = here }

-- bytes of which none is a newline
none_counted : (u : List ℕ) → ((k : ℕ) → k < length u → (get_or u k 0 == newline) ≡ false) → newline_count u ≡ 0
none_counted [] each = refl
none_counted (b ∷ t) each = by_test (b == newline) (each 0 (omega arith)) (none_counted t (λ k l. each (suc k) (omega (arith, l))))
  where
    by_test : (x : Bool) → x ≡ false → newline_count t ≡ 0 → flag x + newline_count t ≡ 0
    by_test true e h = absurd (cc)
    by_test false e h = omega (arith, h)

-- no newline stands before the first bit of their mask
unset_up_to : (m k : ℕ) → m < 2 ^ 32 → k < count_trailing_zeros 64 m → bit_at m k ≡ 0
unset_up_to zero k small low = bit_at-zero k
unset_up_to (suc m) k small low = unset_first (suc m) small (λ e. absurd (omega (arith, e))) k low

pub none_ended : (t : List ℕ) (at gap m : ℕ) → at + 32 ≤ length t → gap ≤ 32 → m ≡ mask_l (map (λ x. x == newline) (chunk at 32 t)) → gap ≤ count_trailing_zeros 64 m
    → newline_count (between t at (at + gap)) ≡ 0
none_ended t at gap m room few ms low =
    let size : at + gap - at ≡ gap = omega arith in
    let small : m < 2 ^ 32 = omega (arith, ms, marks_small (λ x. x == newline) t at room) in
    ap (λ n. newline_count (take n (drop at t))) size
    ∙ none_counted (take gap (drop at t))
    (λ k l. let inside : k < gap = omega (arith, l, length-take-le gap (drop at t) (omega (arith, length-drop at t, room, few))) in
    let byte : get_or (take gap (drop at t)) k 0 ≡ get_or t (at + k) 0 = get_or-take gap (drop at t) k 0 inside ∙ get_or-drop at t k 0 in
    ap (λ b. b == newline) byte ∙ unmarked (λ x. x == newline) t at k room (omega (arith, inside, few)) (ap (λ n. bit_at n k) (sym ms) ∙ unset_up_to m k small (omega (arith, inside, low))))
