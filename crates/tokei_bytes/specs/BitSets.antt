-- Sets of bytes as the bits of words.
use Rattle.std.specs.Prelude.{ℕ, ◌/◌, ◌%◌, Bool, List, map, ◌==◌, slice_index}
use Rattle.std.specs.List.{range_with_len}
use Rattle.std.specs.Int.{bit_at}

-- Whether the byte's bit is 1. The lowest bit of the first word is that of the byte 0.
abbrev pub has_bit : List ℕ → ℕ → Bool
has_bit words byte = bit_at (slice_index words (byte / 64)) (byte % 64) == 1

-- For each byte, a flag tells whether its bit is 1.
unfoldable pub flags_of : List ℕ → List Bool
flags_of words = map (has_bit words) (range_with_len 0 256)
