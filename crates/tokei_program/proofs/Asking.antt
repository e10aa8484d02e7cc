-- What a command line asks for is written, where the list or the counts are.
use Rattle.std.proofs.Common.{◌≡◌, ◌≢◌, ℕ, List, [], true, false, Option, Some, Result, Ok, Err, IfOk, OnOk, String, inr, string_bytes, sym, subst}
use Rattle.std.specs.Global.{Global}
use Rattle.tokei.specs.declared.job.Job.{Job}
use Rattle.tokei.specs.Output.{Outputs}
use Rattle.tokei_cli.specs.CommandLines.{excludes_of, inputs_of}
use Rattle.tokei_cli.specs.Lines.{IsLineOf}
use Rattle.tokei_cli.specs.declared.cli.Cli.{Cli}
use Rattle.tokei_config.specs.declared.flaws.Flaw.{Flaw}
use Rattle.tokei_folders.specs.Tree.{Tree}
use Rattle.tokei_program.specs.Beside.{IsBeside, ShowsAsked, ShowsBy, ShowsNotes, Met}
use Rattle.tokei_invocation.specs.declared.environment.Env.{Env}
use Rattle.tokei_program.specs.Jobs.{IsJobOf}
use Rattle.tokei_invocation.specs.NotesText.{passed_text}
use Rattle.tokei_invocation.specs.Tables.{place_of_table, table_at}
use Rattle.tokei_program.specs.Writing.{Writes, WritesAsked, WritesBy, WritesCounts, WritesList}
use Rattle.tokei_table.specs.Row.{Row}
use Rattle.tokei_walk.specs.declared.kept_file.Note.{Note}
use Rattle.tokei_walk.specs.Notes.{Grows, notes_of_excludes}

module _ {A E : Type 0} (env : Env) (t : Tree) (c : Cli) (input old new : Option (List ℕ)) where
  pub asked_by_list : (r : Result A E) → inputs_of c ≢ [] → c.print_languages ≡ true → OnOk r (WritesList c env t old new) → OnOk r (WritesAsked c env t input old new)
  asked_by_list (Err e) named lists written = tt
  asked_by_list (Ok a) named lists written = record {
    inputs = named;
    written = subst (λ b. WritesBy b c env t input old new) (sym lists) written;
  }

  pub asked_by_counts : (r : Result A E) → inputs_of c ≢ [] → c.print_languages ≡ false → OnOk r (WritesCounts c env t input old new) → OnOk r (WritesAsked c env t input old new)
  asked_by_counts (Err e) named counts written = tt
  asked_by_counts (Ok a) named counts written = record {
    inputs = named;
    written = subst (λ b. WritesBy b c env t input old new) (sym counts) written;
  }

  -- the counts are those of a run that is the command line's
  pub counts_written : (rows : List Row) (job : Job) (r : Result A E) → table_at t (place_of_table env c) ≡ Some (Ok rows) → IsJobOf rows c env t input job
      → OnOk r (Outputs job.wanted rows job t old new) → OnOk r (WritesCounts c env t input old new)
  counts_written rows job (Err e) table is written = tt
  counts_written rows job (Ok a) table is written = record { rows = rows; table = table; job = job; is = is; outputs = written }

-- what the command line of the words asks for is written, and so either is
pub either_is : {A E : Type 0} (words : List (List ℕ)) (c : Cli) (env : Env) (t : Tree) (input old new : Option (List ℕ)) (r : Result A E) → IsLineOf words c
    → OnOk r (WritesAsked c env t input old new) → OnOk r (Writes words env t input old new)
either_is words c env t input old new (Err e) spelled written = tt
either_is words c env t input old new (Ok a) spelled written = inr (record {
  line = c;
  spelled = spelled;
  asked = written;
})

module _ {E : Type 0} (met : Met) (c : Cli) where
  -- nothing is said beside the list
  pub beside_list : (r : Result (String Global) E) → c.print_languages ≡ true → IfOk r (λ text. string_bytes text ≡ [])
      → IfOk r (λ text. ShowsAsked met c (string_bytes text))
  beside_list (Err e) lists silent = tt
  beside_list (Ok text) lists silent = subst (λ b. ShowsBy met b c (string_bytes text)) (sym lists) silent

  -- notes are said beside the counts
  pub beside_counts : (r : Result (String Global) E) → c.print_languages ≡ false
      → IfOk r (λ text. ShowsNotes met c (string_bytes text)) → IfOk r (λ text. ShowsAsked met c (string_bytes text))
  beside_counts (Err e) counts shows = tt
  beside_counts (Ok text) counts shows = subst (λ b. ShowsBy met b c (string_bytes text)) (sym counts) shows

  -- notes are shown as the command line of the words wants them
  pub beside_is : (words : List (List ℕ)) (old new : Option (List ℕ)) (r : Result (String Global) E) → IsLineOf words c
      → IfOk r (λ text. ShowsAsked met c (string_bytes text)) → IfOk r (λ text. IsBeside met words old new (string_bytes text))
  beside_is words old new (Err e) spelled shows = tt
  beside_is words old new (Ok text) spelled shows = inr (record { line = c; spelled = spelled; shows = shows })

-- the notes of a run over the command line's excludes are shown
pub notes_shown : (met : Met) (c : Cli) (rows : List Row) (flaws : List Flaw) (excludes : List (List ℕ)) (notes as_shown : List Note) (text : List ℕ)
    → met c rows flaws notes as_shown → excludes ≡ excludes_of c → Grows (notes_of_excludes excludes) notes → text ≡ passed_text rows c as_shown flaws
    → ShowsNotes met c text
notes_shown met c rows flaws excludes notes as_shown text is_met are grows shown = record {
  rows = rows;
  flaws = flaws;
  notes = notes;
  first = subst (λ e. Grows (notes_of_excludes e) notes) are grows;
  as_shown = as_shown;
  are = is_met;
  shown = shown;
}
