-- Fences: code between three backticks and three backticks.
use Rattle.std.specs.Prelude.{ℕ, ◌+◌, Bool, true, false, ◌&&◌, ◌==◌, nat_lt, if◌then◌else◌, Option, None, Some}
use Rattle.std.specs.Prelude.{List, [], ◌∷◌, length, take, drop, codes}
use Rattle.tokei_table_row.specs.Bytes.{is_blank, begins, solid_len}
use Rattle.tokei_embedding.specs.Searches.{first_where, first_of, is_at}

-- A fence is three backticks.
abbrev pub fence : List ℕ
fence = codes "```"

-- Whether the text begins with a byte or more that aren't blank, and a blank behind the longest run
-- of them.
abbrev pub begins_info : List ℕ → Bool
begins_info text = nat_lt 0 (solid_len text) && nat_lt (solid_len text) (length text)

-- Whether a fence opening stands at the front: a fence, its info (the bytes that aren't blank), and
-- one blank.
abbrev pub opens_fence : List ℕ → Bool
opens_fence text = begins fence text && begins_info (drop 3 text)

-- Whether a fence stands at the front, and no blank behind it. No fence opens in such a text.
abbrev pub is_solid_fence : List ℕ → Bool
is_solid_fence text = begins fence text && (solid_len (drop 3 text) == length (drop 3 text))

-- The length of the info in the fence opening at the front.
abbrev pub info_len : List ℕ → ℕ
info_len text = solid_len (drop 3 text)

-- The part's first fence opening.
abbrev pub first_fence : List ℕ → Option ℕ
first_fence part = first_where opens_fence part

-- How long the closing fence is, by the bytes behind its backticks: it takes one blank there, where
-- one stands.
abbrev pub closing_len : List ℕ → ℕ
closing_len [] = 3
closing_len (b ∷ t) = if is_blank b then 4 else 3

-- A block of code in fences: the info of its opening, its contents, the length from the opening
-- through the closing fence, and whether that came.
pub record Fence : Type 0 where
  pub info : List ℕ
  pub contents : List ℕ
  pub size : ℕ
  pub closed : Bool

-- The block at the front of `rest`, by the bytes behind its opening of that size, and the closing
-- fence in them. A block that isn't closed runs to the end.
abbrev pub fence_to : List ℕ → ℕ → List ℕ → List ℕ → Option ℕ → Fence
fence_to info number rest behind None =
    record { info = info; contents = behind; size = length rest; closed = false }
fence_to info number rest behind (Some i) = record {
  info = info;
  contents = take i behind;
  size = number + i + closing_len (drop (i + 3) behind);
  closed = true;
}

-- The block at the front of `rest`, whose info has that size.
abbrev pub fence_from : ℕ → List ℕ → Fence
fence_from number rest =
    let behind = drop (number + 4) rest in
    fence_to (take number (drop 3 rest)) (number + 4) rest behind (first_of fence behind)

-- The block that opens at a place of a part, where the part's first fence opening stands there.
-- `rest` is the text from the place on.
abbrev pub fence_block : List ℕ → ℕ → List ℕ → Option Fence
fence_block part place rest =
    if is_at place (first_fence part) then Some (fence_from (info_len (drop place part)) rest)
    else None
