-- What a search has found at the first of those that are left.
use Rattle.std.proofs.Common.{◌≡◌, ℕ, zero, suc, ◌+◌, ◌<◌, Bool, true, ◌&&◌, ◌||◌, List, [], ◌∷◌, length, map, drop, get_or, refl, sym, ap, ◌∙◌, Bor, bytes_eq, arith}
use Rattle.std.proofs.Math.Bool.{or-true}
use Rattle.std.proofs.lemmas.List.{at_drop_more}
use Rattle.std.proofs.lemmas.Slice.Eq.{bytes_eq-Decides}
use Rattle.std.specs.List.{list_all}
use Rattle.tokei_table_row.specs.Bytes.{holds}
use Rattle.tokei_table_rules.specs.MetNames.{words_of}

-- whether all pass the test, by whether that one does
pub by_first : {X Y : Type 0} (view : X → Y) (test : Y → Bool) (xs : List X) (i : ℕ) (d : X) → i < length xs
    → list_all test (map view (drop i xs)) ≡ list_all test (map view xs) → (b : Bool) → test (view (get_or xs i d)) ≡ b
    → (b && list_all test (map view (drop (i + 1) xs))) ≡ list_all test (map view xs)
by_first view test xs i d inside kept b e =
    ap (λ b. b && list_all test (map view (drop (i + 1) xs))) (sym e)
    ∙ sym (at_drop_more (λ rest. list_all test (map view rest)) xs i d inside)
    ∙ kept

pub held : (texts : List (Bor (List ℕ))) (i : ℕ) (d : Bor (List ℕ)) → i < length texts
    → holds (words_of texts) (get_or texts i d).now ≡ true
held [] i d inside = absurd (omega (arith, inside))
held (t ∷ ts) zero d inside = ap (λ b. b || holds (words_of ts) t.now) ((bytes_eq-Decides t.now t.now).1 refl)
held (t ∷ ts) (suc i) d inside =
    ap (λ b. bytes_eq t.now (get_or ts i d).now || b) (held ts i d (omega (arith, inside)))
    ∙ or-true (bytes_eq t.now (get_or ts i d).now)
