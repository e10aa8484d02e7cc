-- The list of the languages, line by line.
use Rattle.std.proofs.Common.{◌≡◌, ℕ, zero, suc, ◌+◌, ◌<◌, List, [], ◌∷◌, ◌++◌, length, get_or, drop, map, String, refl, sym, ap, ap₂, ◌∙◌, arith, codes, string_bytes, ◌-◌, length-drop, Bor}
use Rattle.std.specs.Prelude.{flat_map}
use Rattle.std.specs.Global.{Global}
use Rattle.std.specs.List.{join_by}
use Rattle.std.proofs.lemmas.List.{drop_more}
use Rattle.tokei_table_row.specs.Row.{Row}
use Rattle.tokei_table_row.specs.RowOf.{tokens_of}
use Rattle.tokei_table_row.specs.NewRow.{new_row}
use Rattle.tokei_table.specs.Listed.{listed, languages_from}
use Rattle.tokei_table.specs.Lookups.{row_at}
use Rattle.tokei_cli.specs.Printing.{extensions_text, list_line, row_line}

between : (xs : List (String Global)) → flat_map (λ y. codes ", " ++ string_bytes y) xs ≡ flat_map (λ y. codes ", " ++ y) (tokens_of xs)
between [] = refl
between (x ∷ xs) = ap (λ r. (codes ", " ++ string_bytes x) ++ r) (between xs)

pub joined_tokens : (xs : List (String Global)) → 0 < length xs → join_by string_bytes (codes ", ") xs ≡ extensions_text (tokens_of xs)
joined_tokens [] h = absurd (omega arith)
joined_tokens (x ∷ xs) h = ap (λ r. string_bytes x ++ r) (between xs)

-- the line of a listed language
abbrev pub listed_line : List Row → ℕ × List (List ℕ) → List ℕ
listed_line rows l = list_line (row_at rows l.0).name (extensions_text l.1)

-- the lines of the listed rows are those of the rows
pub listed_lines : (rows rs : List Row) (k : ℕ) (ls : List (ℕ × Bor (List (String Global)))) → rs ≡ drop k rows → map listed ls ≡ languages_from k rs
    → flat_map (λ l. listed_line rows (listed l)) ls ≡ flat_map row_line rs
listed_lines rows [] k [] d e = refl
listed_lines rows [] k (l ∷ ls) d e = cc
listed_lines rows (r ∷ rs) k [] d e = cc
listed_lines rows (r ∷ rs) k (l ∷ ls) d e =
    let more : length (r ∷ rs) ≡ length rows - k = ap length d ∙ length-drop k rows in
    let within : k < length rows = omega (arith, more) in
    let here : r ∷ rs ≡ row_at rows k ∷ drop (k + 1) rows = d ∙ drop_more rows k (new_row []) within in
    let row : r ≡ row_at rows k = cc in
    let rest : rs ≡ drop (k + 1) rows = cc in
    let first : listed l ≡ (k, r.extensions) = cc in
    let others : map listed ls ≡ languages_from (k + 1) rs = cc in
    let same : listed_line rows (listed l) ≡ row_line r =
    ap (listed_line rows) first ∙ ap (λ (x : Row). list_line x.name (extensions_text r.extensions)) (sym row) in
    ap₂ (λ (x y : List ℕ). x ++ y) same (listed_lines rows rs (k + 1) ls rest others)

-- each listed language is one of the rows
pub place_below : (rs : List Row) (k : ℕ) (ls : List (ℕ × Bor (List (String Global)))) → map listed ls ≡ languages_from k rs
    → (i : ℕ) (d : ℕ × Bor (List (String Global))) → i < length ls → (get_or ls i d).0 < k + length rs
place_below rs k [] e i d h = absurd (omega arith)
place_below [] k (l ∷ ls) e i d h = cc
place_below (r ∷ rs) k (l ∷ ls) e zero d h =
    let first : listed l ≡ (k, r.extensions) = cc in
    let place : l.0 ≡ k = ap (λ (p : ℕ × List (List ℕ)). p.0) first in
    omega (arith, place)
place_below (r ∷ rs) k (l ∷ ls) e (suc i) d h =
    let others : map listed ls ≡ languages_from (k + 1) rs = cc in
    let below = place_below rs (k + 1) ls others i d (omega arith) in
    omega (arith, below)
