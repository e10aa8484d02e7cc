-- How often an input is read at most.
use Rattle.std.specs.Prelude.{ℕ}

-- the most reads of one input or file: one that gives bytes without end is refused behind them
abbrev pub most_reads : ℕ
most_reads = 4294967296
