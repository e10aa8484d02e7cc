-- A count of faults, and which answers tell of one.
use Rattle.std.specs.Prelude.{ℕ, ◌+◌, ◌<◌, ◌≡◌, ◌≢◌, Result, Ok, Err}

-- the count after a call: one more where the call was a fault
abbrev pub faults_after : {A E : Type 0} → Result A E → ℕ → ℕ
faults_after (Ok a) n = n
faults_after (Err e) n = n + 1

-- a refusal for a fault has counted it, where the count was below the greatest `u64`
abbrev pub TellsFault : {W A E : Type 0} → (W → ℕ) → W → W → Result A E → E → Type 0
TellsFault faults old new result fault =
    faults old < 18446744073709551615 → result ≡ Err fault → faults old < faults new

-- any other answer has passed over no fault
abbrev pub PassesNoFault : {W A E : Type 0} → (W → ℕ) → W → W → Result A E → E → Type 0
PassesNoFault faults old new result fault =
    faults old < 18446744073709551615 → result ≢ Err fault → faults new ≡ faults old
