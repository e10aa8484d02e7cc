-- Folders whose calls fail once a number of calls has passed.
use Rattle.std.specs.Prelude.{◌≡◌, ℕ, ◌+◌, ◌-◌, ◌<◌, Result, Err}
use Rattle.tokei_folders.specs.Answers.{counted}
use Rattle.tokei_folders.specs.declared.fs.Fault.{Fault}
use Rattle.tokei_folders.specs.declared.fs.Fault.TheVariants.{Memory}
use Rattle.tokei_memory.specs.declared.failing.FailingFolders.{FailingFolders}

-- how many calls still pass
abbrev pub calls_left : {F : Type 0} → FailingFolders F → ℕ
calls_left failing = failing.left

-- the folders inside
abbrev pub inside : {F : Type 0} → FailingFolders F → F
inside failing = failing.inner

-- the faults of the folders inside, and the calls that didn't pass
abbrev pub all_faults : {F : Type 0} → (F → ℕ) → FailingFolders F → ℕ
all_faults faults failing = faults failing.inner + failing.refused

-- a number of faults below the greatest `u64` grows by an answer that is out of memory, and by no
-- other
abbrev pub Counts : {S A : Type 0} → (S → ℕ) → S → S → Result A Fault → Type 0
Counts faults old new answer =
    faults old < 18446744073709551615 → faults new ≡ counted answer (faults old)

-- a call takes one of those that still pass; where none is left it fails out of memory and doesn't
-- reach the folders inside, and one that passes is out of memory exactly where they are
pub record PassesOrFails {F A : Type 0} (faults : F → ℕ) (old new : FailingFolders F)
    (answer : Result A Fault) : Type 0 where
  pub counts_down : calls_left new ≡ calls_left old - 1
  pub fails : calls_left old ≡ 0 → answer ≡ Err Memory
  pub stays : calls_left old ≡ 0 → inside new ≡ inside old
  pub passes : 0 < calls_left old → Counts faults (inside old) (inside new) answer
