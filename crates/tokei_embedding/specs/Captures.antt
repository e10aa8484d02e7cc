-- Captures: the openings and closings of a part, as bytes of the text.
use Rattle.std.specs.Prelude.{ℕ, ◌+◌, Bool, false, ◌&&◌, ◌==◌, nat_le, if◌then◌else◌, List, [], ◌∷◌, length, drop}
use Rattle.std.specs.Prelude.{Option, None, Some, option_map}
use Rattle.tokei_embedding.specs.Fences.{fence, first_fence, info_len, closing_len}
use Rattle.tokei_table_row.specs.Slices.{between}
use Rattle.tokei_embedding.specs.Searches.{first_of}
use Rattle.tokei_embedding.specs.Spans.{Span, shifted, bytes_of}
use Rattle.tokei_embedding.specs.Tags.{Opening, first_opening}
use Rattle.tokei_embedding.specs.declared.tags.Tag.{Tag}
use Rattle.tokei_embedding.specs.declared.tags.Tag.TheVariants.{Script, Style, Template}

-- Bytes of a text, and the place in it at which they begin.
pub record Captured : Type 0 where
  pub start : ℕ
  pub bytes : List ℕ

-- The place behind them.
abbrev pub end_of : Captured → ℕ
end_of c = c.start + length c.bytes

-- What a span of the part that begins at `from` captures of the text.
abbrev pub captured : List ℕ → ℕ → Span → Captured
captured text from span = record
    { start = from + span.start; bytes = bytes_of text (shifted from span) }

-- Where the token stands first in the part.
abbrev pub token_span : List ℕ → List ℕ → Option Span
token_span token part =
    option_map (λ i. record { start = i; stop = i + length token }) (first_of token part)

-- The part's first fence opening, with its blank.
abbrev pub fence_opening : List ℕ → Option Span
fence_opening part =
    option_map (λ i. record { start = i; stop = i + (info_len (drop i part) + 4) })
    (first_fence part)

-- The part's first closing fence, with one blank behind it where one stands there.
abbrev pub fence_closing : List ℕ → Option Span
fence_closing part =
    option_map (λ i. record { start = i; stop = i + closing_len (drop (i + 3) part) })
    (first_of fence part)

-- The capture of a whole opening, and that of the value in it.
abbrev pub opening_captured : List ℕ → ℕ → Opening → List (Option Captured)
opening_captured text from opening =
    Some (captured text from opening.whole) ∷ option_map (captured text from) opening.value ∷ []

-- What `text[from..to]` opens of the tag.
abbrev pub start_tag : Tag → List ℕ → ℕ → ℕ → Option (List (Option Captured))
start_tag tag text from to =
    option_map (opening_captured text from) (first_opening tag (between text from to))

-- Whether the capture begins at one place and ends by the other.
abbrev pub lies_in : ℕ → ℕ → Captured → Bool
lies_in start end c = (c.start == start) && nat_le (end_of c) end

-- Whether the first of the captures is there and does so.
abbrev pub opens_in : ℕ → ℕ → List (Option Captured) → Bool
opens_in start end [] = false
opens_in start end (None ∷ cs) = false
opens_in start end (Some c ∷ cs) = lies_in start end c

-- The captures, where the first of them lies in the range.
abbrev pub captures_in : ℕ → ℕ → Option (List (Option Captured)) → Option (List (Option Captured))
captures_in start end None = None
captures_in start end (Some cs) = if opens_in start end cs then Some cs else None

-- The capture, where it lies in the range.
abbrev pub capture_in : ℕ → ℕ → Option Captured → Option Captured
capture_in start end None = None
capture_in start end (Some c) = if lies_in start end c then Some c else None

-- The openings of the three tags.
pub record TagOpenings : Type 0 where
  pub script : Option (List (Option Captured))
  pub style : Option (List (Option Captured))
  pub template : Option (List (Option Captured))

-- What `text[from..to]` opens of the three.
abbrev pub tag_openings : List ℕ → ℕ → ℕ → TagOpenings
tag_openings text from to = record {
  script = start_tag Script text from to;
  style = start_tag Style text from to;
  template = start_tag Template text from to;
}
