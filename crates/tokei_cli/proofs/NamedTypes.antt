-- The languages that pieces of a word name, piece by piece, and those of words, word by word.
use Rattle.std.proofs.Common.{◌≡◌, ◌+◌, ◌<◌, ℕ, List, [], ◌∷◌, ◌++◌, map, Option, None, Some, String, Bor, refl, sym, ap, ◌∙◌, append-nil, append_assoc}
use Rattle.std.proofs.Common.{get_or, length, string_bytes, take}
use Rattle.std.specs.Global.{Global}
use Rattle.std.specs.Prelude.{filter_map}
use Rattle.std.proofs.lemmas.List.{flat_map_more, map-append, map_more}
use Rattle.std.proofs.lemmas.List.Elements.{filter_map-append}
use Rattle.tokei_table_row.specs.Row.{Row}
use Rattle.tokei_cli.specs.Overriding.{languages_in, languages_named}

-- what one more piece names
abbrev pub added : Option ℕ → List ℕ → List ℕ
added None ls = ls
added (Some l) ls = ls ++ l ∷ []

one_more : (name : List ℕ → Option ℕ) (piece : List ℕ) (found : Option ℕ) → found ≡ name piece → (ls : List ℕ)
    → added found ls ≡ ls ++ filter_map name (piece ∷ [])
one_more name piece None e ls = rw (← e) (sym (append-nil ls))
one_more name piece (Some l) e ls = rw (← e) refl

-- the languages of the pieces so far, and of one more
pub named_more : (name : List ℕ → Option ℕ) (before ls : List ℕ) (ys : List (Bor (List ℕ))) (y : Bor (List ℕ)) (found : Option ℕ) → found ≡ name y.now
    → ls ≡ before ++ filter_map name (map (λ x. x.now) ys) → added found ls ≡ before ++ filter_map name (map (λ x. x.now) (ys ++ y ∷ []))
named_more name before ls ys y found e so_far =
    let now : Bor (List ℕ) → List ℕ = λ x. x.now in
    let pieces = map-append now ys (y ∷ []) in
    let split = filter_map-append name (map now ys) (y.now ∷ []) in
    one_more name y.now found e ls ∙ ap (λ r. r ++ filter_map name (y.now ∷ [])) so_far
    ∙ append_assoc before (filter_map name (map now ys)) (filter_map name (y.now ∷ []))
    ∙ ap (λ r. before ++ r) (sym split ∙ ap (filter_map name) (sym pieces))

-- the languages of the words so far, and of one more
pub words_more : (rows : List Row) (words : List (String Global)) (i : ℕ) (word : String Global) (ls : List ℕ) → i < length words → word ≡ get_or words i word
    → ls ≡ languages_named rows (map string_bytes (take i words))
    → ls ++ languages_in rows (string_bytes word) ≡ languages_named rows (map string_bytes (take (i + 1) words))
words_more rows words i word ls h is so_far =
    ap (λ (r : List ℕ). r ++ languages_in rows (string_bytes word)) so_far
    ∙ flat_map_more (languages_in rows) [] (map string_bytes (take i words)) (string_bytes word)
    ∙ ap (languages_named rows) (ap (λ (w : String Global). map string_bytes (take i words) ++ string_bytes w ∷ []) is ∙ sym (map_more string_bytes words i word h))
