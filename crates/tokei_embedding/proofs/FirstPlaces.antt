-- A token's places in a part of a text, and the first one there.
use Rattle.std.proofs.Common.{◌≡◌, ℕ, ◌+◌, ◌-◌, ◌<◌, ◌≤◌, List, length, take, drop, get_or, None, Some, sym, ◌∙◌, ap, subst, arith, length-take, length-drop, get_or-take, get_or-drop}
use Rattle.memchr.specs.Find.{OccursAt, FindsNeedle}
use Rattle.tokei_embedding.proofs.Places.{first_of-is}
use Rattle.tokei_embedding.specs.Remembered.{Sought, IsFirstPlace}
use Rattle.tokei_embedding.specs.Searches.{first_of}

sum_assoc : (p j i : ℕ) → p + (j + i) ≡ (p + j) + i
sum_assoc p j i = omega arith

pub part_length : (t : List ℕ) (p m : ℕ) → p + m ≤ length t → length (take m (drop p t)) ≡ m
part_length t p m l = omega (arith, length-take m (drop p t), length-drop p t)

-- where the token stands in the part it stands in the text
pub occurs_out : (t token : List ℕ) (p m j : ℕ) → OccursAt (take m (drop p t)) token j → 0 < length token → (OccursAt t token (p + j)) × (j + length token ≤ m)
occurs_out t token p m j o l =
    let short : j + length token ≤ m = omega (arith, o.fits, length-take m (drop p t)) in
    let within : j + length token ≤ length t - p = omega (arith, o.fits, length-take m (drop p t), length-drop p t) in (
      record {
        fits = omega (arith, l, within);
        reads = λ i h. ap (λ k. get_or t k 0) (sym (sum_assoc p j i))
            ∙ sym (get_or-drop p t (j + i) 0)
            ∙ sym (get_or-take m (drop p t) (j + i) 0 (omega (arith, h, short))) ∙ o.reads i h;
      },
      short,
    )

-- and where it stands in the text and ends in the part, it stands in the part
pub occurs_in : (t token : List ℕ) (p m j : ℕ) → OccursAt t token (p + j) → j + length token ≤ m → p + m ≤ length t → OccursAt (take m (drop p t)) token j
occurs_in t token p m j o l n =
    record {
      fits = omega (arith, l, part_length t p m n);
      reads = λ i h. get_or-take m (drop p t) (j + i) 0 (omega (arith, h, l))
          ∙ get_or-drop p t (j + i) 0 ∙ ap (λ k. get_or t k 0) (sum_assoc p j i) ∙ o.reads i h;
    }

pub place_at : (t token : List ℕ) (k p : ℕ) → p ≤ k → OccursAt t token k → OccursAt t token (p + (k - p))
place_at t token k p l o = let e : k ≡ p + (k - p) = omega arith in subst (OccursAt t token) e o

-- the remembered place is the first one in a part that begins up to it and in which it ends
pub first_is : (s : Sought) (from place p to : ℕ) → IsFirstPlace s from place → from ≤ p → p ≤ place
    → place ≤ to → to ≤ length s.text → length s.token ≤ to - place
    → Some (place - p) ≡ first_of s.token (take (to - p) (drop p s.text))
first_is s from place p to f l m n e h =
    let part = take (to - p) (drop p s.text) in
    let fits : p + (to - p) ≤ length s.text = omega arith in
    let stands : OccursAt s.text s.token place = f.stands (omega arith) (omega (arith, f.some)) in
    let here : OccursAt part s.token (place - p) = occurs_in s.text s.token p (to - p) (place - p) (place_at s.text s.token place p m stands) (omega arith) fits in
    let found : FindsNeedle part s.token 0 (Some (place - p)) =
    (record { low = omega arith; high = omega (arith, here.fits); before = λ k i j o. f.none (p + k) (omega arith) (omega arith) (occurs_out s.text s.token p (to - p) k o f.some).0 }, here) in
    first_of-is part s.token (Some (place - p)) found f.some

-- and where it doesn't end in the part, none is
pub first_past : (s : Sought) (from place p to : ℕ) → IsFirstPlace s from place → from ≤ p → p ≤ to → to < place + length s.token → None ≡ first_of s.token (take (to - p) (drop p s.text))
first_past s from place p to f l m h =
    let part = take (to - p) (drop p s.text) in
    let found : FindsNeedle part s.token 0 None =
    (λ k i j o. let out = occurs_out s.text s.token p (to - p) k o f.some in f.none (p + k) (omega arith) (omega (arith, out.1, f.some)) out.0) in
    first_of-is part s.token None found f.some

-- what is first from a place on is first from a later one that it doesn't stand before
pub first_later : (s : Sought) (from place p : ℕ) → IsFirstPlace s from place → from ≤ p → p ≤ place → IsFirstPlace s p place
first_later s from place p f l m = record { some = f.some; none = λ k i j. f.none k (omega arith) j; stands = λ i j. f.stands (omega arith) j }

-- what a search of the text from a place on comes to
pub first_found : (s : Sought) (from i : ℕ) → 0 < length s.token
    → FindsNeedle (take (length s.text - from) (drop from s.text)) s.token 0 (Some i)
    → from ≤ length s.text → IsFirstPlace s from (from + i)
first_found s from i some f l =
    let m = length s.text - from in
    let fits : from + m ≤ length s.text = omega arith in
    record {
      some = some;
      none = λ k a b o. f.0.before (k - from) (omega arith) (omega arith) (occurs_in s.text s.token from m (k - from) (place_at s.text s.token k from a o) (omega (arith, o.fits)) fits);
      stands = λ a b. (occurs_out s.text s.token from m i f.1 some).0;
    }

pub nothing_found : (s : Sought) (from : ℕ) → 0 < length s.token
    → FindsNeedle (take (length s.text - from) (drop from s.text)) s.token 0 None
    → from ≤ length s.text → IsFirstPlace s from (length s.text)
nothing_found s from some f l =
    let m = length s.text - from in
    let fits : from + m ≤ length s.text = omega arith in
    record {
      some = some;
      none =
          λ k a b o. f (k - from) (omega arith) (omega (arith, part_length s.text from m fits))
          (occurs_in s.text s.token from m (k - from) (place_at s.text s.token k from a o)
          (omega (arith, o.fits)) fits);
      stands = λ a b. absurd (omega arith);
    }
