-- Where the openings that begin with a byte stand among all.
use Rattle.std.specs.Prelude.{◌≡◌, ℕ, ◌<◌, ◌≤◌, ◌-◌, nat_lt, string_bytes, if◌then◌else◌, List, [], ◌∷◌, None, Some, length, map, drop, take, slice_index_or}
use Rattle.tokei_table_row.specs.RowOf.{pair_of}
use Rattle.tokei_parts.specs.PlainOpenings.{Opening, first_opening}
use Rattle.tokei_parts.specs.declared.opening_table.Opening as CodeOpening
use Rattle.tokei_parts.specs.declared.opening_table.Opening.TheVariants.{Item, LineComment}
use Rattle.tokei_parts.specs.declared.opening_table.Span.{Span}

-- an opening of the code
abbrev pub opening_of : CodeOpening.Opening → Opening
opening_of (Item kind pair) = record { item = Some kind; pair = pair_of pair.now }
opening_of (LineComment token) =
    record { item = None; pair = record { opener = string_bytes token.now; closer = [] } }

-- a list of them
abbrev pub openings_of : List CodeOpening.Opening → List Opening
openings_of os = map opening_of os

-- the end of a span: a span that ends at the greatest byte goes through to the end of all
abbrev pub span_end : List CodeOpening.Opening → Span → ℕ
span_end all span = if nat_lt span.to 255 then span.to else length all

-- those in the span
abbrev pub spanned : List CodeOpening.Opening → Span → List CodeOpening.Opening
spanned all span = take (span_end all span - span.from) (drop span.from all)

-- to look at those in the span is enough where the text begins with the byte
pub record IsSpan (all : List CodeOpening.Opening) (byte : ℕ) (span : Span) : Type 0 where
  pub order : span.from ≤ span_end all span
  pub within : span_end all span ≤ length all
  pub enough : (t : List ℕ)
      → first_opening (openings_of (spanned all span)) (byte ∷ t)
      ≡ first_opening (openings_of all) (byte ∷ t)

-- each byte has its span
pub record AreSpans (all : List CodeOpening.Opening) (spans : List Span) : Type 0 where
  pub each : (byte : ℕ) (d : Span) → byte < 256 → IsSpan all byte (slice_index_or spans byte d)
