-- The languages that a table lists, by their places.
use Rattle.std.proofs.Common.{◌≡◌, ℕ, suc, zero, ◌+◌, ◌<◌, List, [], ◌∷◌, ◌++◌, length, map, take, String, refl, sym, ◌∙◌, ap, arith}
use Rattle.std.specs.Prelude.{slice_index_or}
use Rattle.std.specs.Borrow.{Bor}
use Rattle.std.specs.Global.{Global}
use Rattle.std.proofs.Math.Seq.{take-suc}
use Rattle.std.proofs.Math.ListN.{get_or-map}
use Rattle.std.proofs.lemmas.List.{map-append, length-map, length-take, get_or-take, get_or_default}
use Rattle.tokei_table.specs.Row.{Row}
use Rattle.tokei_table.specs.NewRow.{new_row}
use Rattle.tokei_table.specs.Lookups.{row_at}
use Rattle.tokei_table.specs.Listed.{listed, languages_from}
use Rattle.tokei_parts.specs.Matchers.{Matchers, matchers_of}

-- the language at a place of the list
pub record IsPlaced (k i n : ℕ) : Type 0 where
  pub place : k ≡ i
  pub known : i < n

placed : (n i : ℕ) (rows : List Row) (d : ℕ × List (List ℕ)) → i < length (languages_from n rows) → IsPlaced (slice_index_or (languages_from n rows) i d).0 (n + i) (n + length rows)
placed n i [] d h = absurd (omega (arith, h))
placed n zero (r ∷ rs) d h = record { place = omega arith; known = omega arith }
placed n (suc i) (r ∷ rs) d h =
    let p = placed (n + 1) i rs d (omega (arith, h)) in
    record { place = p.place ∙ omega arith; known = omega (arith, p.known) }

same_length : (rows : List Row) (items : List (ℕ × Bor (List (String Global)))) → map listed items ≡ languages_from 0 rows → length items ≡ length (languages_from 0 rows)
same_length rows items e = sym (length-map items listed) ∙ ap length e

from_zero : (i : ℕ) → 0 + i ≡ i
from_zero i = omega arith

pub listed_place : (rows : List Row) (items : List (ℕ × Bor (List (String Global)))) (i : ℕ) (d : ℕ × Bor (List (String Global))) → map listed items ≡ languages_from 0 rows → i < length items
    → IsPlaced (slice_index_or items i d).0 i (length rows)
listed_place rows items i d e h =
    let within : i < length (languages_from 0 rows) = omega (arith, h, same_length rows items e) in
    let p = placed 0 i rows (listed d) within in
    record {
      place = ap (λ (l : ℕ × List (List ℕ)). l.0) (sym (get_or-map listed items i d) ∙ ap (λ es. slice_index_or es i (listed d)) e) ∙ p.place ∙ from_zero i;
      known = omega (arith, p.known);
    }

-- an item of the list
pub listed_item : (rows : List Row) (items : List (ℕ × Bor (List (String Global)))) (i : ℕ) (item d : ℕ × Bor (List (String Global))) → map listed items ≡ languages_from 0 rows → i < length items
    → item ≡ slice_index_or items i d → IsPlaced item.0 i (length rows)
listed_item rows items i item d e h f =
    let p = listed_place rows items i d e h in
    record { place = ap (λ (l : ℕ × Bor (List (String Global))). l.0) f ∙ p.place; known = p.known }

more : (i : ℕ) → suc i ≡ i + 1
more i = omega arith

-- the matchers of one language more
pub one_more : (rows : List Row) (all : List Matchers) (k i : ℕ) (m : Matchers) → all ≡ map matchers_of (take i rows) → IsPlaced k i (length rows) → m ≡ matchers_of (row_at rows k)
    → all ++ m ∷ [] ≡ map matchers_of (take (i + 1) rows)
one_more rows all k i m a p e =
    ap (λ ms. ms ++ m ∷ []) a
    ∙ ap (λ x. map matchers_of (take i rows) ++ x ∷ [])
    (e ∙ ap (λ n. matchers_of (row_at rows n)) p.place)
    ∙ sym (map-append matchers_of (take i rows) (row_at rows i ∷ []))
    ∙ ap (map matchers_of) (sym (take-suc rows i (new_row []) p.known) ∙ ap (λ n. take n rows) (more i))

pub listed_all : (rows : List Row) (items : List (ℕ × Bor (List (String Global)))) → map listed items ≡ languages_from 0 rows → length items ≡ length rows
listed_all rows items e = same_length rows items e ∙ counted 0 rows
  where
    counted : (n : ℕ) (rs : List Row) → length (languages_from n rs) ≡ length rs
    counted n [] = refl
    counted n (r ∷ rs) = ap suc (counted (n + 1) rs)

-- where the first ones of a table have theirs, so has one of them
pub made_before : (rows : List Row) (all : List Matchers) (next k : ℕ) (d : Matchers) → all ≡ map matchers_of (take next rows) → next < length rows → k < length all
    → slice_index_or all k d ≡ matchers_of (row_at rows k)
made_before rows all next k d e known made =
    let few : k < next = omega (arith, made, ap length e, length-map (take next rows) matchers_of, length-take next rows) in
    get_or_default all k d (matchers_of (new_row [])) made
    ∙ ap (λ ms. slice_index_or ms k (matchers_of (new_row []))) e
    ∙ get_or-map matchers_of (take next rows) k (new_row [])
    ∙ ap matchers_of (get_or-take next rows k (new_row []) few)
