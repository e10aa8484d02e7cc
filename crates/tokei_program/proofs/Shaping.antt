-- What the program writes has its shape.
use Rattle.std.proofs.Common.{◌≡◌, ℕ, List, true, false, Option, Result, Ok, Err, OnOk, inr, sym, subst}
use Rattle.tokei.specs.declared.job.Job.{Job}
use Rattle.tokei.specs.Shapes.{HasShape}
use Rattle.tokei_cli.specs.declared.cli.Cli.{Cli}
use Rattle.tokei_cli.specs.Lines.{IsLineOf}
use Rattle.tokei_program.specs.Choices.{Chooses}
use Rattle.tokei_program.specs.Jobs.{IsJob}
use Rattle.tokei_program.specs.Shapes.{Answers, AnswersBy, CountsSome, ListsSome}
use Rattle.tokei_table.specs.Row.{Row}

module _ {A E : Type 0} (c : Cli) (old new : Option (List ℕ)) where
  -- the counts are those of a run that the command line gives
  pub counts_shaped : (rows : List Row) (job : Job) (r : Result A E) → IsJob c job → Chooses c job.wanted job.sort job.numbers
      → OnOk r (HasShape job.wanted rows job old new) → OnOk r (CountsSome c old new)
  counts_shaped rows job (Err e) members chosen shape = tt
  counts_shaped rows job (Ok a) members chosen shape = record { rows = rows; job = job; members = members; chosen = chosen; shape = shape }

  pub shaped_by_list : (r : Result A E) → c.print_languages ≡ true → OnOk r (ListsSome old new) → OnOk r (AnswersBy c.print_languages c old new)
  shaped_by_list (Err e) lists shape = tt
  shaped_by_list (Ok a) lists shape = subst (λ b. AnswersBy b c old new) (sym lists) shape

  pub shaped_by_counts : (r : Result A E) → c.print_languages ≡ false → OnOk r (CountsSome c old new) → OnOk r (AnswersBy c.print_languages c old new)
  shaped_by_counts (Err e) counts shape = tt
  shaped_by_counts (Ok a) counts shape = subst (λ b. AnswersBy b c old new) (sym counts) shape

  -- the words have that command line
  pub words_shaped : (words : List (List ℕ)) (r : Result A E) → IsLineOf words c → OnOk r (AnswersBy c.print_languages c old new) → OnOk r (Answers words old new)
  words_shaped words (Err e) spelled shape = tt
  words_shaped words (Ok a) spelled shape = inr (record { line = c; spelled = spelled; answers = shape })
