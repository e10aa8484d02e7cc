-- How long an input is at most.
use Rattle.std.specs.Prelude.{ℕ}

-- the most bytes of one input: one that has more is refused behind them
abbrev pub most_bytes : ℕ
most_bytes = 4294967296
