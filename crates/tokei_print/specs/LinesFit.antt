-- When a sum that a row shows fits the code's numbers.
use Rattle.std.specs.Prelude.{◌<◌, ◌^◌}
use Rattle.tokei_stats.specs.Statistics.{Counts, lines_of}

-- the lines are at most the greatest `usize`
abbrev pub LinesFit : Counts → Type 0
LinesFit counts = lines_of counts < 2 ^ 64
