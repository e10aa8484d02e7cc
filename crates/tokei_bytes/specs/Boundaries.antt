-- Character boundaries: the places of a text at which a character begins, and its end.
use Rattle.std.specs.Prelude.{ℕ, suc, ◌+◌, ◌≤◌, List, [], ◌∷◌, drop, if◌then◌else◌}
use Rattle.std.specs.Fmt.{is_char_start}
use Rattle.std.specs.Str.{IsCharBoundary}

-- the least boundary of the text that is not below `index`
pub record IsLeastBoundary (text : List ℕ) (index found : ℕ) : Type 0 where
  pub boundary : IsCharBoundary text found
  pub not_below : index ≤ found
  pub least : (k : ℕ) → index ≤ k → IsCharBoundary text k → found ≤ k

-- how many bytes stand before the first that begins a character
abbrev pub cut_len : List ℕ → ℕ
cut_len [] = 0
cut_len (b ∷ text) = if is_char_start b then 0 else suc (cut_len text)

-- the same boundary, computed
abbrev pub boundary_from : List ℕ → ℕ → ℕ
boundary_from text index = index + cut_len (drop index text)
