-- A token's last place in a part of a text.
use Rattle.std.proofs.Common.{◌≡◌, ℕ, ◌+◌, ◌-◌, ◌<◌, ◌≤◌, length, take, drop, None, Some, arith}
use Rattle.memchr.specs.Find.{OccursAt, FindsLastNeedle}
use Rattle.tokei_embedding.proofs.FirstPlaces.{part_length, occurs_out, occurs_in, place_at}
use Rattle.tokei_embedding.proofs.Places.{last_of-is}
use Rattle.tokei_embedding.specs.Remembered.{Sought, EndsNowhere, StandsLast}
use Rattle.tokei_embedding.specs.Searches.{last_of}

-- the last place of the text's range is the last one of that part
pub last_is : (s : Sought) (from to place : ℕ) → 0 < length s.token → from ≤ to → to ≤ length s.text
    → StandsLast s from to place
    → Some (place - from) ≡ last_of s.token (take (to - from) (drop from s.text))
last_is s from to place some l m f =
    let part = take (to - from) (drop from s.text) in
    let fits : from + (to - from) ≤ length s.text = omega arith in
    let here : OccursAt part s.token (place - from) =
    occurs_in s.text s.token from (to - from) (place - from)
    (place_at s.text s.token place from f.order f.stands) (omega (arith, f.order, f.ends))
    fits in
    let found : FindsLastNeedle part s.token (Some (place - from)) = (
      record {
        low = omega arith;
        high = omega (arith, here.fits);
        after = λ k i j o. let out = occurs_out s.text s.token from (to - from) k o some
            in f.none (from + k) (omega (arith, f.order)) (omega (arith, out.1)) out.0;
      },
      here,
    ) in
    last_of-is part s.token (Some (place - from)) found some

pub last_none : (s : Sought) (from to : ℕ) → 0 < length s.token → from ≤ to → EndsNowhere s from to → None ≡ last_of s.token (take (to - from) (drop from s.text))
last_none s from to some l f =
    let part = take (to - from) (drop from s.text) in
    let found : FindsLastNeedle part s.token None =
    (λ k i j o. let out = occurs_out s.text s.token from (to - from) k o some in f (from + k) (omega arith) (omega (arith, out.1)) out.0) in
    last_of-is part s.token None found some

-- a place that is last in a range is last in a later one that it doesn't stand before
pub last_later : (s : Sought) (from to place p : ℕ) → StandsLast s from to place → p ≤ place → StandsLast s p to place
last_later s from to place p f l = record { order = l; ends = f.ends; stands = f.stands; none = f.none }

-- and where it stands before that, nothing stands there
pub last_before : (s : Sought) (from to place p : ℕ) → StandsLast s from to place → place < p → EndsNowhere s p to
last_before s from to place p f l = λ k i j. f.none k (omega arith) j

pub nowhere_later : (s : Sought) (from to p : ℕ) → EndsNowhere s from to → from ≤ p → EndsNowhere s p to
nowhere_later s from to p f l = λ k i j. f k (omega arith) j

-- what a search of a part from its end comes to
pub last_found : (s : Sought) (from to i : ℕ) → 0 < length s.token → from ≤ to → to ≤ length s.text
    → FindsLastNeedle (take (to - from) (drop from s.text)) s.token (Some i)
    → StandsLast s from to (from + i)
last_found s from to i some l m f =
    let n = to - from in
    let fits : from + n ≤ length s.text = omega arith in
    let out = occurs_out s.text s.token from n i f.1 some in
    record {
      order = omega arith;
      ends = omega (arith, out.1);
      stands = out.0;
      none =
          λ k a b o. f.0.after (k - from) (omega arith)
          (omega (arith, part_length s.text from n fits))
          (occurs_in s.text s.token from n (k - from)
          (place_at s.text s.token k from (omega arith) o) (omega (arith, b)) fits);
    }

pub none_found : (s : Sought) (from to : ℕ) → 0 < length s.token → from ≤ to → to ≤ length s.text → FindsLastNeedle (take (to - from) (drop from s.text)) s.token None → EndsNowhere s from to
none_found s from to some l m f = λ k a b o.
    let n = to - from in
    let fits : from + n ≤ length s.text = omega arith in
    f (k - from) (omega arith) (omega (arith, b, part_length s.text from n fits)) (occurs_in s.text s.token from n (k - from) (place_at s.text s.token k from a o) (omega (arith, b)) fits)
