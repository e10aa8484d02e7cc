-- Answers to the goals of the call that counts a text with its steps.
use Rattle.std.proofs.Common.{◌≡◌, ℕ, Bool, ◌≤◌, List, sym, ap, subst, ◌∙◌, arith}
use Rattle.std.proofs.lemmas.Result.{err_from_is_err_and}
use Rattle.tokei_table.specs.Row.{Row}
use Rattle.tokei_count.specs.Countings.{text_steps, text_openings, text_weight, all_lines}
use Rattle.tokei_count.specs.Languages.{languages_of}
use Rattle.tokei_count.specs.PlainReading.{reading, outermost_levels}
use Rattle.tokei_count.specs.Steps.{capped}
use Rattle.tokei_stats.specs.Overflow.{Fits}
use Rattle.tokei_stats.specs.Seen.{stats_of}
use Rattle.tokei_count.proofs.LineWeight.{lines-weight, reading-fits, reading-fits_by_length}
use Rattle.tokei_count.proofs.QuietSteps.{quiet_steps}
use Rattle.tokei_count.proofs.Refusals.{same_refusal}
use Rattle.tokei_count.proofs.StepWeight.{steps-weight}
use Rattle.tokei_count.proofs.StepsBetween.{steps-between}
use Rattle.tokei_count.proofs.TableBounds.{have_tokens, capped-low, capped-more}
use Rattle.tokei_count.proofs.Weights.{weight-length}
use Rattle.tokei_count.proofs.parse.parse_counted.Goals as goal

pub returns-clause-steps : goal.returns-clause-steps
returns-clause-steps c =
    c.in_ok-read.ensures.steps
    ∙ ap (λ (rows : List Row). capped (text_steps rows c.args.language c.args.text.now)) c.table.ensures.table

pub returns-clause-steps_at_most_weight : goal.returns-clause-steps_at_most_weight
returns-clause-steps_at_most_weight c =
    let sound = have_tokens c.args.counter.now c.table.ensures.well_formed in
    let all : ℕ = text_steps c.args.counter.now c.args.language c.args.text.now in
    let heavy : all ≤ text_weight c.args.counter.now c.args.language c.args.text.now =
    steps-weight c.args.counter.now sound outermost_levels c.args.language c.args.text.now in
    omega (arith, heavy, returns-clause-steps c, capped-low all)

pub returns-clause-steps_at_most_bytes : goal.returns-clause-steps_at_most_bytes
returns-clause-steps_at_most_bytes c = λ none.
    omega (
      arith,
      returns-clause-steps_at_most_weight c,
      weight-length c.args.counter.now none outermost_levels c.args.language c.args.text.now,
    )

pub returns-clause-lines_at_most_weight : goal.returns-clause-lines_at_most_weight
returns-clause-lines_at_most_weight c =
    let sound = have_tokens c.args.counter.now c.table.ensures.well_formed in
    let docs_are_comments = c.unwrap_or-docs_are_comments.result in
    let read = λ (rows : List Row). reading (languages_of rows) docs_are_comments outermost_levels c.args.language c.args.text.now in
    let heavy : all_lines (read c.args.counter.now) ≤ text_weight c.args.counter.now c.args.language c.args.text.now =
    lines-weight c.args.counter.now sound docs_are_comments outermost_levels c.args.language c.args.text.now in
    let lines_are : all_lines (stats_of c.in_ok-read.read.stats) ≡ all_lines (read c.args.counter.now) =
    ap all_lines (c.in_ok-read.ensures.reads ∙ ap read c.table.ensures.table) in
    omega (arith, heavy, lines_are)

pub returns-clause-lines_at_most_bytes : goal.returns-clause-lines_at_most_bytes
returns-clause-lines_at_most_bytes c = λ none.
    omega (
      arith,
      returns-clause-lines_at_most_weight c,
      weight-length c.args.counter.now none outermost_levels c.args.language c.args.text.now,
    )

pub returns-in_err-read-clause-no_overflow_without_notebooks
    : goal.returns-in_err-read-clause-no_overflow_without_notebooks
returns-in_err-read-clause-no_overflow_without_notebooks c = λ none.
    let sound = have_tokens c.args.counter.now c.table.ensures.well_formed in
    let docs_are_comments = c.unwrap_or-docs_are_comments.result in
    let read = λ (rows : List Row). reading (languages_of rows) docs_are_comments outermost_levels c.args.language c.args.text.now in
    let fits : Fits (read c.args.counter.now) =
    reading-fits_by_length c.args.counter.now sound docs_are_comments none outermost_levels c.args.language c.args.text.now
    c.lengths_fit.ensures in
    let here : Fits (read c.table.result.now) =
    subst (λ (rows : List Row). Fits (read rows)) (sym c.table.ensures.table) fits in
    let p = err_from_is_err_and c.from_residual.result c.from_residual.ensures.1 in
    rw (p.1, p.2) (λ is.
    c.in_err-read.ensures.overflow (same_refusal _ _ is) here)

pub returns-clause-openings_at_most_steps : goal.returns-clause-openings_at_most_steps
returns-clause-openings_at_most_steps c =
    let sound = have_tokens c.args.counter.now c.table.ensures.well_formed in
    let low = (steps-between c.args.counter.now sound outermost_levels c.args.language c.args.text.now).low in
    let more = capped-more (text_openings c.args.counter.now c.args.language c.args.text.now)
    (text_steps c.args.counter.now c.args.language c.args.text.now) low in
    omega (arith, returns-clause-steps c, more)

pub returns-clause-steps_at_most_work : goal.returns-clause-steps_at_most_work
returns-clause-steps_at_most_work c =
    let sound = have_tokens c.args.counter.now c.table.ensures.well_formed in
    let high = (steps-between c.args.counter.now sound outermost_levels c.args.language c.args.text.now).high in
    let all : ℕ = text_steps c.args.counter.now c.args.language c.args.text.now in
    omega (arith, returns-clause-steps c, high, capped-low all)

pub returns-in_err-read-clause-no_overflow_of_light_texts : goal.returns-in_err-read-clause-no_overflow_of_light_texts
returns-in_err-read-clause-no_overflow_of_light_texts c = λ light.
    let sound = have_tokens c.args.counter.now c.table.ensures.well_formed in
    let docs_are_comments = c.unwrap_or-docs_are_comments.result in
    let read = λ (rows : List Row). reading (languages_of rows) docs_are_comments outermost_levels c.args.language c.args.text.now in
    let fits : Fits (read c.args.counter.now) =
    reading-fits c.args.counter.now sound docs_are_comments outermost_levels c.args.language c.args.text.now light in
    let here : Fits (read c.table.result.now) =
    subst (λ (rows : List Row). Fits (read rows)) (sym c.table.ensures.table) fits in
    let p = err_from_is_err_and c.from_residual.result c.from_residual.ensures.1 in
    rw (p.1, p.2) (λ is.
    c.in_err-read.ensures.overflow (same_refusal _ _ is) here)

pub returns-clause-no_steps_without_openers : goal.returns-clause-no_steps_without_openers
returns-clause-no_steps_without_openers c = λ quiet.
    let sound = have_tokens c.args.counter.now c.table.ensures.well_formed in
    let none = quiet_steps c.args.counter.now sound outermost_levels c.args.language c.args.text.now
    quiet.in_lines quiet.none in
    returns-clause-steps c ∙ ap capped none

pub returns-clause-reads : goal.returns-clause-reads
returns-clause-reads c =
    c.in_ok-read.ensures.reads
    ∙ ap (λ (rows : List Row). reading (languages_of rows) c.unwrap_or-docs_are_comments.result outermost_levels c.args.language c.args.text.now) c.table.ensures.table
    ∙ ap (λ (docs : Bool). reading (languages_of c.args.counter.now) docs outermost_levels c.args.language c.args.text.now) c.unwrap_or-docs_are_comments.ensures
