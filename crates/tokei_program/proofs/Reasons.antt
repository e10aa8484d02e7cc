-- Why the program fails.
use Rattle.std.proofs.Common.{◌≡◌, ℕ, List, Bool, true, false, Option, None, Some, Result, Ok, Err, inl, inr, ◌⊎◌, sym, subst}
use Rattle.std.proofs.lemmas.Bool.{false≢true}
use Rattle.std.specs.Prelude.{IfErr}
use Rattle.tokei_cli.specs.Lines.{IsLineOf}
use Rattle.tokei_cli.specs.declared.cli.Cli.{Cli}
use Rattle.tokei_folders.specs.Tree.{Tree}
use Rattle.tokei_invocation.specs.OutputEndings.{is_out_of_memory, IsEndingOfOutput}
use Rattle.tokei_invocation.specs.Messages.{SaysOf}
use Rattle.tokei_invocation.specs.Statuses.{status_of}
use Rattle.tokei_invocation.specs.Tables.{content_at, place_of_table, table_at}
use Rattle.tokei_invocation.specs.declared.ending.Ending.{Ending}
use Rattle.tokei_invocation.specs.declared.ending.Ending.TheVariants.{Memory, NoRoom}
use Rattle.tokei_invocation.specs.declared.environment.Env.{Env}
use Rattle.tokei.specs.declared.job.Job.{Job}
use Rattle.tokei.specs.Sums.{Fits}
use Rattle.tokei_invocation.specs.Endings.{IsEndingAt}
use Rattle.tokei_program.specs.Jobs.{IsJobOf}
use Rattle.tokei_program.specs.Reasons.{IsEndingBefore, IsEndingBy, IsEndingOf, SaysWhy}
use Rattle.tokei_table.specs.Row.{Row}

-- memory may run out before a table is taken
pub memory_at : (place : List ℕ) (content : Option (List ℕ)) (e : Ending) → is_out_of_memory e ≡ true → IsEndingAt place content e
memory_at place None Memory h = tt
memory_at place (Some bytes) Memory h = tt
memory_at place None (NoRoom unheld) h = tt
memory_at place (Some bytes) (NoRoom unheld) h = tt
memory_at place content e h = absurd (false≢true h)

module _ (c : Cli) (env : Env) (t : Tree) (input : Option (List ℕ)) (Failed Fault : Type 0) where
  -- memory may run out whatever a command line asks for
  pub memory_by : (b : Bool) (e : Ending) → is_out_of_memory e ≡ true → IsEndingBy b c env t input Failed Fault e
  memory_by true e h = inl (memory_at (place_of_table env c) (content_at t (place_of_table env c)) e h)
  memory_by false e h = inl (memory_at (place_of_table env c) (content_at t (place_of_table env c)) e h)

  -- what was asked for is told by the command line
  pub by_choice : {A : Type 0} (b : Bool) (r : Result A Ending) → c.print_languages ≡ b → IfErr r (IsEndingBy b c env t input Failed Fault)
      → IfErr r (λ e. status_of e ≡ 1 → IsEndingBy c.print_languages c env t input Failed Fault e)
  by_choice b (Ok a) is ended = tt
  by_choice b (Err e) is ended = λ _. subst (λ b. IsEndingBy b c env t input Failed Fault e) (sym is) ended

  -- the words have that command line
  pub by_words : {A : Type 0} (words : List (List ℕ)) (r : Result A Ending) → IsLineOf words c
      → IfErr r (λ e. status_of e ≡ 1 → IsEndingBy c.print_languages c env t input Failed Fault e)
      → IfErr r (λ e. status_of e ≡ 1 → IsEndingOf words env t input Failed Fault e)
  by_words words (Ok a) spelled ended = tt
  by_words words (Err e) spelled ended = λ one. inr (record { line = c; spelled = spelled; ended = ended one })

  -- the table was taken, and then the run of a job ended
  pub by_run : {A : Type 0} (rows : List Row) (job : Job) (r : Result A Ending) → table_at t (place_of_table env c) ≡ Some (Ok rows)
      → IsJobOf rows c env t input job → IfErr r (IsEndingOfOutput (¬ Fits job.wanted rows job t) Fault)
      → IfErr r (IsEndingBy false c env t input Failed Fault)
  by_run rows job (Ok a) table is ended = tt
  by_run rows job (Err e) table is ended = inr (record { rows = rows; table = table; ended = inr (record { job = job; is = is; ended = ended }) })

  -- the table was taken, and then no run of a job could be made
  pub before_run : (rows : List Row) (e : Ending) → table_at t (place_of_table env c) ≡ Some (Ok rows) → IsEndingBefore rows c t input Failed e
      → IsEndingBy false c env t input Failed Fault e
  before_run rows e table ended = inr (record { rows = rows; table = table; ended = inl ended })

-- what is told is that ending, or that memory ran out, which is true of any words
pub told_why : (words : List (List ℕ)) (env : Env) (t : Tree) (input : Option (List ℕ)) (Failed Fault : Type 0) (e : Ending) (old new : Option (List ℕ))
    → IsEndingOf words env t input Failed Fault e → SaysOf e old new ⊎ SaysOf Memory old new → SaysWhy words env t input Failed Fault old new
told_why words env t input Failed Fault e old new is (inl told) = record { ending = e; is = is; says = told }
told_why words env t input Failed Fault e old new is (inr told) = record { ending = Memory; is = inl tt; says = told }
