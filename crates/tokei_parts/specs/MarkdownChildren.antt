-- Markdown: code in fences.
use Rattle.std.specs.Prelude.{ℕ, Bool, ◌==◌, if◌then◌else◌, List, [], ◌∷◌, Option, None, option_map, option_and_then}
use Rattle.std.specs.List.{slice_split}
use Rattle.std.specs.Option.{option_or}
use Rattle.tokei_table.specs.Bytes.{trim}
use Rattle.tokei_table.specs.Row.{Row}
use Rattle.tokei_embedding.specs.Fences.{Fence, fence_block}
use Rattle.tokei_parts.specs.Items.{Block}
use Rattle.tokei_parts.specs.NamedLanguages.{by_word}

-- whether the byte is a comma, `,`
abbrev pub is_comma : ℕ → Bool
is_comma byte = byte == 44

-- the language of the first piece that names one
abbrev pub first_named : List Row → List (List ℕ) → Option ℕ
first_named rows [] = None
first_named rows (piece ∷ pieces) = option_or (by_word rows piece) (first_named rows pieces)

-- The info is cut at commas; the first piece that names a language is the fence's language.
abbrev pub known_piece : List Row → List ℕ → Option ℕ
known_piece rows info = first_named rows (slice_split is_comma info)

-- The text of a fence is read trimmed. Its own lines are comments of the parent: 2 where it is
-- closed, else 1.
abbrev pub fence_as : Fence → ℕ → Block
fence_as fence language = record {
  language = language;
  contents = trim fence.contents;
  size = fence.size;
  share = record { blanks = 0; code = 0; comments = if fence.closed then 2 else 1 };
}

-- a fence whose info names no language is no child
abbrev pub fence_child : List Row → Fence → Option Block
fence_child rows fence = option_map (fence_as fence) (known_piece rows fence.info)

-- the child that opens at a place of the part; `rest` is the text from the place on
abbrev pub markdown_block : List Row → List ℕ → ℕ → List ℕ → Option Block
markdown_block rows part place rest =
    option_and_then (fence_child rows) (fence_block part place rest)
