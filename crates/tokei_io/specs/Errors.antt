-- Why an output ended, from why its sums were refused.
use Rattle.tokei_stats.specs.declared.error.CountError.{CountError}
use Rattle.tokei_stats.specs.declared.error.CountError.TheVariants.{Memory as NoMemory, Overflow as SumOverflow}
use Rattle.tokei_io.specs.declared.error.OutputError.{OutputError}
use Rattle.tokei_io.specs.declared.error.OutputError.TheVariants.{Memory, Overflow}

-- an output ends as its sums do: memory ran out, or a sum passed the greatest `usize`
abbrev pub error_of_count : CountError → OutputError
error_of_count NoMemory = Memory
error_of_count SumOverflow = Overflow
