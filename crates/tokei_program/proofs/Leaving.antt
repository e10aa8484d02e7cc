-- What a program that has failed leaves.
use Rattle.std.proofs.Common.{◌≡◌, ◌≢◌, ℕ, List, [], false, Option, Some, Result, Ok, Err, inl, inr, ◌⊎◌, sym, subst}
use Rattle.std.specs.Prelude.{OnErr}
use Rattle.tokei.specs.declared.job.Job.{Job}
use Rattle.tokei.specs.Output.{Outputs}
use Rattle.tokei.specs.Refused.{IsBegun}
use Rattle.tokei_cli.specs.CommandLines.{inputs_of}
use Rattle.tokei_cli.specs.Lines.{IsLineOf}
use Rattle.tokei_cli.specs.declared.cli.Cli.{Cli}
use Rattle.tokei_folders.specs.Tree.{Tree}
use Rattle.tokei_invocation.specs.declared.environment.Env.{Env}
use Rattle.tokei_invocation.specs.Tables.{place_of_table, table_at}
use Rattle.tokei_program.specs.Jobs.{IsJobOf}
use Rattle.tokei_program.specs.Leaving.{Leaves, LeavesAsked, LeavesCounts}
use Rattle.tokei_program.specs.Writing.{WritesBy}
use Rattle.tokei_table.specs.Row.{Row}

-- what holds whichever the refusal is
pub on_err : {A E P : Type 0} (r : Result A E) → P → OnErr r P
on_err (Ok a) p = tt
on_err (Err e) p = p

module _ {A E : Type 0} (env : Env) (t : Tree) (c : Cli) (input old new : Option (List ℕ)) (Quiet : Type 0) where
  -- a run that is the command line's leaves what it outputs, or has begun
  pub counts_left : (rows : List Row) (job : Job) (r : Result A E) → table_at t (place_of_table env c) ≡ Some (Ok rows) → IsJobOf rows c env t input job
      → OnErr r (Quiet → Outputs job.wanted rows job t old new ⊎ IsBegun job.wanted rows job t old new) → OnErr r (Quiet → LeavesCounts c env t input old new)
  counts_left rows job (Ok a) table is left = tt
  counts_left rows job (Err e) table is left = λ q. either (left q)
    where
      either : Outputs job.wanted rows job t old new ⊎ IsBegun job.wanted rows job t old new → LeavesCounts c env t input old new
      either (inl whole) = inr (inl (record { rows = rows; table = table; job = job; is = is; outputs = whole }))
      either (inr begun) = inr (inr (record { rows = rows; table = table; job = job; is = is; begun = begun }))

  -- where counts are asked for
  pub asked_left : (r : Result A E) → inputs_of c ≢ [] → c.print_languages ≡ false → OnErr r (Quiet → LeavesCounts c env t input old new)
      → OnErr r (Quiet → LeavesAsked c env t input old new)
  asked_left (Ok a) named counts left = tt
  asked_left (Err e) named counts left = λ q. either (left q)
    where
      either : LeavesCounts c env t input old new → LeavesAsked c env t input old new
      either (inl same) = inl same
      either (inr (inl whole)) = inr (inl (record { inputs = named; written = subst (λ b. WritesBy b c env t input old new) (sym counts) whole }))
      either (inr (inr begun)) = inr (inr begun)

  -- where the list is asked for
  pub list_left : (r : Result A E) → OnErr r (Quiet → new ≡ old) → OnErr r (Quiet → LeavesAsked c env t input old new)
  list_left (Ok a) left = tt
  list_left (Err e) left = λ q. inl (left q)

  -- where the words have that command line
  pub words_left : (words : List (List ℕ)) (r : Result A E) → IsLineOf words c → OnErr r (Quiet → LeavesAsked c env t input old new)
      → OnErr r (Quiet → Leaves words env t input old new)
  words_left words (Ok a) spelled left = tt
  words_left words (Err e) spelled left = λ q. either (left q)
    where
      either : LeavesAsked c env t input old new → Leaves words env t input old new
      either (inl same) = inl same
      either (inr (inl whole)) = inr (inl (inr (record { line = c; spelled = spelled; asked = whole })))
      either (inr (inr begun)) = inr (inr (record { line = c; spelled = spelled; begins = begun }))
