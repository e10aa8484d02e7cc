-- What a call that prints does to its writer's count of faults.
use Rattle.std.specs.Prelude.{ℕ, ◌+◌, ◌<◌, ◌≡◌, Result, Ok, Err}
use Rattle.tokei_io.specs.declared.error.OutputError.{OutputError}
use Rattle.tokei_io.specs.declared.error.OutputError.TheVariants.{Memory, Overflow, Write}

-- one fault more where the writer had one, and none else
abbrev pub faults_after_printing : {A : Type 0} → Result A OutputError → ℕ → ℕ
faults_after_printing (Ok a) n = n
faults_after_printing (Err Memory) n = n
faults_after_printing (Err Overflow) n = n
faults_after_printing (Err Write) n = n + 1

-- a call that prints has counted one fault where it is refused for its writer's, and else none;
-- where the count was below the greatest `u64`
abbrev pub CountsWriteFault : {W A : Type 0} → (W → ℕ) → W → W → Result A OutputError → Type 0
CountsWriteFault faults old new result =
    faults old < 18446744073709551615 → faults new ≡ faults_after_printing result (faults old)
