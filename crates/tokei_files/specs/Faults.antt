-- Why a file has no report.
use Rattle.tokei_stats.specs.declared.error.CountError.{CountError}
use Rattle.tokei_stats.specs.declared.error.CountError.TheVariants.{Memory, Overflow}
use Rattle.tokei_folders.specs.declared.fs.Fault.{Fault}
use Rattle.tokei_folders.specs.declared.fs.Fault.TheVariants.{Refused, Memory as Wanting}
use Rattle.tokei_files.specs.declared.error.ParseFault.{ParseFault}
use Rattle.tokei_files.specs.declared.error.ParseFault.TheVariants.{Refused as NotRead, Memory as OutOfMemory, Overflow as TooMany}

-- a text that isn't counted has no report
abbrev pub fault_of_count : CountError → ParseFault
fault_of_count Memory = OutOfMemory
fault_of_count Overflow = TooMany

-- a file that isn't read has no report
abbrev pub fault_of_folders : Fault → ParseFault
fault_of_folders Refused = NotRead
fault_of_folders Wanting = OutOfMemory
