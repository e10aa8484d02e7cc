-- What a search for a byte answers.
use Rattle.std.specs.Prelude.{◌≡◌, ℕ, ◌<◌, ◌≤◌, Bool, true, false, List, slice_index}

-- the first place of the text, from `from` to before `to`, whose byte passes the test, or `to`
-- where none does
pub record IsFirstPlace (passes : ℕ → Bool) (text : List ℕ) (from to place : ℕ) : Type 0 where
  pub low : from ≤ place
  pub high : place ≤ to
  pub passed : (p : ℕ) → from ≤ p → p < place → passes (slice_index text p) ≡ false
  pub found : place < to → passes (slice_index text place) ≡ true
