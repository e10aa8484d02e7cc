-- A range of places.
use Rattle.std.specs.Prelude.{ℕ, ◌+◌, ◌-◌, List, take, drop}

-- The bytes from `start` to before `stop`.
pub record Span : Type 0 where
  pub start : ℕ
  pub stop : ℕ

-- The span so many bytes further on.
abbrev pub shifted : ℕ → Span → Span
shifted place span = record { start = place + span.start; stop = place + span.stop }

-- The span's bytes.
abbrev pub bytes_of : List ℕ → Span → List ℕ
bytes_of text span = take (span.stop - span.start) (drop span.start text)
