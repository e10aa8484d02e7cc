-- A call that prints tells its writer's fault, and passes over none.
use Rattle.std.proofs.Common.{◌≡◌, ◌≢◌, ◌<◌, ◌+◌, ℕ, Result, Ok, Err, ap, ◌∙◌, refl, rules}
use Rattle.tokei_io.specs.Faults.{TellsFault, PassesNoFault, faults_after}
use Rattle.tokei_io.specs.Printing.{faults_after_printing, CountsWriteFault}
use Rattle.tokei_io.specs.declared.error.OutputError.{OutputError}
use Rattle.tokei_io.specs.declared.error.OutputError.TheVariants.{Memory, Overflow, Write}

module _ {W A : Type 0} (faults : W → ℕ) (old new : W) where
  -- it has counted the fault for which it is refused
  pub printing_tells : (q : Result A OutputError)
      → CountsWriteFault faults old new q
      → TellsFault faults old new q Write
  printing_tells q counts below is =
      let more : faults new ≡ faults old + 1 = counts below ∙ ap (λ r. faults_after_printing r (faults old)) is in
      search rules

  -- any other answer has counted none
  pub printing_passes : (q : Result A OutputError)
      → CountsWriteFault faults old new q
      → PassesNoFault faults old new q Write
  printing_passes (Ok a) counts below other = counts below
  printing_passes (Err Memory) counts below other = counts below
  printing_passes (Err Overflow) counts below other = counts below
  printing_passes (Err Write) counts below other = absurd (other refl)

  -- where it is refused for a fault alone, each refusal has counted one
  pub printing_counts : (q : Result A OutputError) → q ≢ Err Memory → q ≢ Err Overflow
      → CountsWriteFault faults old new q
      → faults old < 18446744073709551615 → faults new ≡ faults_after q (faults old)
  printing_counts (Ok a) memory overflow counts below = counts below
  printing_counts (Err Memory) memory overflow counts below = absurd (memory refl)
  printing_counts (Err Overflow) memory overflow counts below = absurd (overflow refl)
  printing_counts (Err Write) memory overflow counts below = counts below
