-- A block of text without the blank rest of its first line and the blank front of its last one.
use Rattle.std.specs.Prelude.{ℕ, ◌+◌, ◌-◌, zero, suc, min, Bool, false, ◌&&◌, ◌||◌, ◌==◌, not, if◌then◌else◌}
use Rattle.std.specs.Prelude.{List, [], ◌∷◌, length, slice_index, Option, None, Some, option_map}
use Rattle.tokei_table_row.specs.Bytes.{is_blank, newline, carriage_return}
use Rattle.tokei_table_row.specs.Slices.{between}

-- A stop is a newline or a byte that isn't blank.
abbrev pub is_stop : ℕ → Bool
is_stop byte = (byte == newline) || not (is_blank byte)

-- The index of the first stop.
abbrev pub first_stop : List ℕ → Option ℕ
first_stop [] = None
first_stop (b ∷ t) = if is_stop b then Some 0 else option_map suc (first_stop t)

-- The place in a text whose rest, behind a first byte, has the given place.
abbrev pub later_or : Bool → Option ℕ → Option ℕ
later_or first None = if first then Some 0 else None
later_or first (Some i) = Some (suc i)

-- The index of the last stop.
abbrev pub last_stop : List ℕ → Option ℕ
last_stop [] = None
last_stop (b ∷ t) = later_or (is_stop b) (last_stop t)

-- Where the block begins in a text of that length: behind the first stop, but no later than at the
-- last byte.
abbrev pub start_behind : ℕ → Option ℕ → ℕ
start_behind size None = 0
start_behind size (Some i) = min (i + 1) (size - 1)

-- Whether that index is the one of a newline behind a carriage return.
abbrev pub is_return_newline : List ℕ → ℕ → Bool
is_return_newline text zero = false
is_return_newline text (suc i) =
    (slice_index text i == carriage_return) && (slice_index text (suc i) == newline)

-- Behind which byte the block ends: behind the last stop, or before it where it is a newline behind
-- a carriage return.
abbrev pub end_behind : List ℕ → Option ℕ → ℕ
end_behind text None = length text
end_behind text (Some i) = if is_return_newline text i then i else i + 1

-- The block that is left of a text.
abbrev pub trim_outer_lines : List ℕ → List ℕ
trim_outer_lines text = between text (start_behind (length text) (first_stop text))
    (end_behind text (last_stop text))
