-- A byte that counts wherever it stands, but for one that counts only before some others.
use Rattle.std.specs.Prelude.{ℕ, ◌+◌, ◌==◌, ◌&&◌, ◌||◌, not, Bool, List, slice_index}
use Rattle.tokei_bytes.specs.OneOf.{is_one_of}

-- one of the bytes stands at the place, and where it is `first`, one of the seconds behind it
abbrev pub counts_at : List ℕ → ℕ → List ℕ → List ℕ → ℕ → Bool
counts_at bytes first seconds text place =
    is_one_of bytes (slice_index text place)
    && (not (slice_index text place == first) || is_one_of seconds (slice_index text (place + 1)))
