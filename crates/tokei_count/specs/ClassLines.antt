-- Lines of one class.
use Rattle.std.specs.Prelude.{ℕ}
use Rattle.tokei_parts.specs.declared.class.Class.{Class}
use Rattle.tokei_parts.specs.declared.class.Class.TheVariants.{Blank, Code, Comment}
use Rattle.tokei_stats.specs.Statistics.{Counts}

-- the counts of so many lines of the class
abbrev pub lines_in : Class → ℕ → Counts
lines_in Blank number = record { blanks = number; code = 0; comments = 0 }
lines_in Code number = record { blanks = 0; code = number; comments = 0 }
lines_in Comment number = record { blanks = 0; code = 0; comments = number }
