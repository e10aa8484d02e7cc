-- How many lines of an ignore file can be bad.
use Rattle.std.proofs.Common.{ℕ, suc, ◌+◌, ◌≤◌, ◌==◌, ◌&&◌, List, [], ◌∷◌, Bool, true, false, if◌then◌else◌, length, arith}
use Rattle.std.proofs.lemmas.List.Splits.{length-slice_split}
use Rattle.std.proofs.lemmas.List.Sums.{count_by-le-length}
use Rattle.std.specs.List.{slice_split}
use Rattle.tokei_ignore.specs.IgnoreFiles.{bad_lines_of, count_bad, is_bad_line, is_newline, without_mark}

one_at_most : (b : Bool) (m n : ℕ) → m ≤ n → (if b then m + 1 else m) ≤ suc n
one_at_most true m n h = omega arith
one_at_most false m n h = omega arith

bad_among : (lines : List (List ℕ)) → count_bad lines ≤ length lines
bad_among [] = omega arith
bad_among (line ∷ lines) = one_at_most (is_bad_line line) (count_bad lines) (length lines) (bad_among lines)

three_less : (b : Bool) (x y z : ℕ) (rest : List ℕ) → length (if b then rest else x ∷ y ∷ z ∷ rest) ≤ length (x ∷ y ∷ z ∷ rest)
three_less true x y z rest = omega arith
three_less false x y z rest = omega arith

no_longer : (bytes : List ℕ) → length (without_mark bytes) ≤ length bytes
no_longer [] = omega arith
no_longer (a ∷ []) = omega arith
no_longer (a ∷ b ∷ []) = omega arith
no_longer (a ∷ b ∷ c ∷ rest) = three_less ((a == 239) && (b == 187) && (c == 191)) a b c rest

-- one for each newline at most, and one more
pub few_bad : (bytes : List ℕ) → bad_lines_of bytes ≤ length bytes + 1
unfolding bad_lines_of
few_bad bytes =
    let left = without_mark bytes in
    omega (arith, bad_among (slice_split is_newline left), length-slice_split is_newline left, count_by-le-length is_newline left, no_longer bytes)
