use Rattle.std.proofs.Common.{◌≡◌, ◌<◌, ◌∙◌, ap, sym, ℕ, true, is_some, List, [], ◌-◌, take, drop, arith}
use Rattle.std.proofs.lemmas.List.{append-nil}
use Rattle.tokei_table.specs.RowOf.{pair_of}
use Rattle.tokei_parts.specs.Choice.{Choice, choice, or_else}
use Rattle.tokei_parts.specs.Choice.Choice.{closes, escapes, child_opens, opens, passes_over, begins_line_comment, takes_byte}
use Rattle.tokei_table_row.specs.Bytes.{line_len}
use Rattle.tokei_parts.specs.Modes.{innermost}
use Rattle.tokei_parts.specs.ReadingOf.{row_in, blocks_of}
use Rattle.tokei_parts.specs.Places.{block_here}
use Rattle.tokei_parts.specs.Progress.{OpensInLine}
use Rattle.tokei_parts.specs.SeenChoices.{choice_of}
use Rattle.tokei_parts.specs.Seen.{chain_of}
use Rattle.tokei_parts.specs.declared.walk.Move.TheVariants.{On, Turn, Rest, Child}
use Rattle.tokei_parts.specs.declared.items.Enclosure as Code
use Rattle.tokei_parts.specs.declared.reading.Reading.{Reading}
use Rattle.tokei_parts.proofs.Blocks.{blocks_fit}
use Rattle.tokei_parts.proofs.Stack.{closer_pops, opener_pushes, no_pop, child_opens-plain, line_comment_plain}
use Rattle.tokei_parts.proofs.Stepping.{goes_byte, goes_escape, goes_pass, goes_rest}
use Rattle.tokei_parts.proofs.walk.take_choice.Goals as goal

-- the choice at the place, for a stack
abbrev at_stack : Reading → ℕ → List ℕ → List Code.Enclosure → Choice
at_stack r l u es = choice (row_in r) (innermost (chain_of es)) (blocks_of r l u) u

-- what a choice does is one of four
turn_child : {n : ℕ} → Turn n ≡ Child → ⊥
turn_child e = cc

on_child : {n : ℕ} → On n ≡ Child → ⊥
on_child e = cc

rest_child : Rest ≡ Child → ⊥
rest_child e = cc

turn_on : {m n : ℕ} → Turn m ≡ On n → ⊥
turn_on e = cc

turn_rest : {n : ℕ} → Turn n ≡ Rest → ⊥
turn_rest e = cc

pub returns-in-TakesByte-clause-takes : goal.returns-in-TakesByte-clause-takes
returns-in-TakesByte-clause-takes c =
    let u : List ℕ = drop c.args.place.now.at c.args.place.now.reading.now.text.now in
    let here : at_stack c.args.place.now.reading.now c.args.place.now.behind_child u
    c.args.stack.now.items
    ≡ takes_byte =
    sym c.requires.choice
    ∙ ap (choice_of (blocks_of c.args.place.now.reading.now c.args.place.now.behind_child u))
    c.in-TakesByte.is in
    let some : 0 < line_len u = omega (arith, c.requires.some, c.requires.here.line) in
    let calm : OpensInLine (blocks_of c.args.place.now.reading.now) = (blocks_fit c.args.place.now.reading.now).in_line in
    goes_byte (row_in c.args.place.now.reading.now) (blocks_of c.args.place.now.reading.now)
    c.args.place.now.behind_child c.args.place.now.reading.now.sound calm
    (chain_of c.args.stack.now.items) u c.requires.closable some here

pub returns-in-Escapes-clause-takes : goal.returns-in-Escapes-clause-takes
returns-in-Escapes-clause-takes c =
    let u : List ℕ = drop c.args.place.now.at c.args.place.now.reading.now.text.now in
    let here : at_stack c.args.place.now.reading.now c.args.place.now.behind_child u
    c.args.stack.now.items
    ≡ escapes =
    sym c.requires.choice
    ∙ ap (choice_of (blocks_of c.args.place.now.reading.now c.args.place.now.behind_child u))
    c.in-Escapes.is in
    let some : 0 < line_len u = omega (arith, c.requires.some, c.requires.here.line) in
    let calm : OpensInLine (blocks_of c.args.place.now.reading.now) = (blocks_fit c.args.place.now.reading.now).in_line in
    goes_escape (row_in c.args.place.now.reading.now) (blocks_of c.args.place.now.reading.now)
    c.args.place.now.behind_child c.args.place.now.reading.now.sound calm
    (chain_of c.args.stack.now.items) u c.requires.closable some here

pub returns-in-BeginsLineComment-clause-takes : goal.returns-in-BeginsLineComment-clause-takes
returns-in-BeginsLineComment-clause-takes c =
    let u : List ℕ = drop c.args.place.now.at c.args.place.now.reading.now.text.now in
    let here : at_stack c.args.place.now.reading.now c.args.place.now.behind_child u
    c.args.stack.now.items
    ≡ begins_line_comment =
    sym c.requires.choice
    ∙ ap (choice_of (blocks_of c.args.place.now.reading.now c.args.place.now.behind_child u))
    c.in-BeginsLineComment.is in
    let some : 0 < line_len u = omega (arith, c.requires.some, c.requires.here.line) in
    let calm : OpensInLine (blocks_of c.args.place.now.reading.now) = (blocks_fit c.args.place.now.reading.now).in_line in
    goes_rest (row_in c.args.place.now.reading.now) (blocks_of c.args.place.now.reading.now)
    c.args.place.now.behind_child c.args.place.now.reading.now.sound calm
    (chain_of c.args.stack.now.items) u c.requires.closable some here

pub returns-in-BeginsLineComment-clause-plain : goal.returns-in-BeginsLineComment-clause-plain
returns-in-BeginsLineComment-clause-plain c = λ _.
    let u : List ℕ = drop c.args.place.now.at c.args.place.now.reading.now.text.now in
    let here : at_stack c.args.place.now.reading.now c.args.place.now.behind_child u
    c.args.stack.now.items
    ≡ begins_line_comment =
    sym c.requires.choice
    ∙ ap (choice_of (blocks_of c.args.place.now.reading.now c.args.place.now.behind_child u))
    c.in-BeginsLineComment.is in
    line_comment_plain (row_in c.args.place.now.reading.now) (blocks_of c.args.place.now.reading.now) c.args.place.now.behind_child (innermost (chain_of c.args.stack.now.items)) u here

pub returns-in-PassesOver-clause-takes : goal.returns-in-PassesOver-clause-takes
returns-in-PassesOver-clause-takes c =
    let u : List ℕ = drop c.args.place.now.at c.args.place.now.reading.now.text.now in
    let here : at_stack c.args.place.now.reading.now c.args.place.now.behind_child u
    c.args.stack.now.items
    ≡ passes_over (pair_of c.in-PassesOver.pair.now) =
    sym c.requires.choice
    ∙ ap (choice_of (blocks_of c.args.place.now.reading.now c.args.place.now.behind_child u))
    c.in-PassesOver.is in
    let some : 0 < line_len u = omega (arith, c.requires.some, c.requires.here.line) in
    let calm : OpensInLine (blocks_of c.args.place.now.reading.now) = (blocks_fit c.args.place.now.reading.now).in_line in
    rw c.as_bytes-opener-in-PassesOver.ensures.value (goes_pass
    (row_in c.args.place.now.reading.now) (blocks_of c.args.place.now.reading.now)
    c.args.place.now.behind_child c.args.place.now.reading.now.sound calm
    (chain_of c.args.stack.now.items) u c.requires.closable some
    (pair_of c.in-PassesOver.pair.now) here)

pub returns-in-ChildOpens-clause-takes : goal.returns-in-ChildOpens-clause-takes
returns-in-ChildOpens-clause-takes c =
    let u : List ℕ = drop c.args.place.now.at c.args.place.now.reading.now.text.now in
    let here : at_stack c.args.place.now.reading.now c.args.place.now.behind_child u
    c.args.stack.now.items
    ≡ or_else (blocks_of c.args.place.now.reading.now c.args.place.now.behind_child u)
    child_opens takes_byte =
    sym c.requires.choice
    ∙ ap (choice_of (blocks_of c.args.place.now.reading.now c.args.place.now.behind_child u))
    c.in-ChildOpens.is in
    let some : is_some (block_here c.args.place.now) ≡ true = c.requires.child c.in-ChildOpens.is in
    child_opens-plain (row_in c.args.place.now.reading.now) (blocks_of c.args.place.now.reading.now) c.args.place.now.behind_child c.args.stack.now.items u some here

pub returns-in-ChildOpens-clause-child : goal.returns-in-ChildOpens-clause-child
returns-in-ChildOpens-clause-child c = λ _. c.in-ChildOpens.is

pub returns-in_ok-push-in-Opens-clause-takes : goal.returns-in_ok-push-in-Opens-clause-takes
returns-in_ok-push-in-Opens-clause-takes c =
    let u : List ℕ = drop c.args.place.now.at c.args.place.now.reading.now.text.now in
    let here : at_stack c.args.place.now.reading.now c.args.place.now.behind_child u
    c.args.stack.now.items
    ≡ opens c.in-Opens.kind (pair_of c.in-Opens.pair.now) =
    sym c.requires.choice
    ∙ ap (choice_of (blocks_of c.args.place.now.reading.now c.args.place.now.behind_child u))
    c.in-Opens.is in
    let some : 0 < line_len u = omega (arith, c.requires.some, c.requires.here.line) in
    let calm : OpensInLine (blocks_of c.args.place.now.reading.now) = (blocks_fit c.args.place.now.reading.now).in_line in
    rw c.as_bytes-opener.ensures.value (opener_pushes (row_in c.args.place.now.reading.now)
    (blocks_of c.args.place.now.reading.now) c.args.place.now.behind_child
    c.args.place.now.reading.now.sound calm c.args.stack.now.items c.push.new.self.items
    (record { kind = c.in-Opens.kind; closer = c.as_bytes-closer.result }) c.in-Opens.kind
    (pair_of c.in-Opens.pair.now) u
    c.in_ok-push-in-Opens.ensures.items (ap (λ w. record { kind = c.in-Opens.kind; closer = w }) c.as_bytes-closer.ensures.value) c.requires.closable some here)

pub returns-in-Some-clause-takes : goal.returns-in-Some-clause-takes
returns-in-Some-clause-takes c =
    let u : List ℕ = drop c.args.place.now.at c.args.place.now.reading.now.text.now in
    let here : at_stack c.args.place.now.reading.now c.args.place.now.behind_child u
    c.args.stack.now.items
    ≡ closes =
    sym c.requires.choice
    ∙ ap (choice_of (blocks_of c.args.place.now.reading.now c.args.place.now.behind_child u))
    c.in-Closes.is in
    let some : 0 < line_len u = omega (arith, c.requires.some, c.requires.here.line) in
    let calm : OpensInLine (blocks_of c.args.place.now.reading.now) = (blocks_fit c.args.place.now.reading.now).in_line in
    closer_pops (row_in c.args.place.now.reading.now) (blocks_of c.args.place.now.reading.now)
    c.args.place.now.behind_child c.args.place.now.reading.now.sound calm c.args.stack.now.items
    c.pop.new.self.items c.in-Some.enclosure u c.in-Some.ensures.items c.requires.closable some
    here

pub unreachable-requires : goal.unreachable-requires
unreachable-requires c =
    let u : List ℕ = drop c.args.place.now.at c.args.place.now.reading.now.text.now in
    let here : at_stack c.args.place.now.reading.now c.args.place.now.behind_child u
    c.args.stack.now.items
    ≡ closes =
    sym c.requires.choice
    ∙ ap (choice_of (blocks_of c.args.place.now.reading.now c.args.place.now.behind_child u))
    c.in-Closes.is in
    let some : 0 < line_len u = omega (arith, c.requires.some, c.requires.here.line) in
    let calm : OpensInLine (blocks_of c.args.place.now.reading.now) = (blocks_fit c.args.place.now.reading.now).in_line in
    let empty : c.args.stack.now.items ≡ [] = c.in-None.ensures.items ∙ append-nil _ ∙ c.in-None.ensures.rest ∙ ap (λ n. take (n - 1) c.args.stack.now.items) c.in-None.ensures.cases.0 in
    no_pop (row_in c.args.place.now.reading.now) (blocks_of c.args.place.now.reading.now) c.args.place.now.behind_child c.args.place.now.reading.now.sound calm c.args.stack.now.items u empty here

pub returns-in-Some-clause-child : goal.returns-in-Some-clause-child
returns-in-Some-clause-child c = λ e. absurd (turn_child e)

pub returns-in_ok-push-in-Opens-clause-child : goal.returns-in_ok-push-in-Opens-clause-child
returns-in_ok-push-in-Opens-clause-child c = λ e. absurd (turn_child e)

pub returns-in-Escapes-clause-child : goal.returns-in-Escapes-clause-child
returns-in-Escapes-clause-child c = λ e. absurd (on_child e)

pub returns-in-PassesOver-clause-child : goal.returns-in-PassesOver-clause-child
returns-in-PassesOver-clause-child c = λ e. absurd (on_child e)

pub returns-in-TakesByte-clause-child : goal.returns-in-TakesByte-clause-child
returns-in-TakesByte-clause-child c = λ e. absurd (on_child e)

pub returns-in-BeginsLineComment-clause-child : goal.returns-in-BeginsLineComment-clause-child
returns-in-BeginsLineComment-clause-child c = λ e. absurd (rest_child e)

pub returns-in-Some-clause-kept : goal.returns-in-Some-clause-kept
returns-in-Some-clause-kept c = λ n e. absurd (turn_on e)

pub returns-in_ok-push-in-Opens-clause-kept : goal.returns-in_ok-push-in-Opens-clause-kept
returns-in_ok-push-in-Opens-clause-kept c = λ n e. absurd (turn_on e)

pub returns-in_ok-push-in-Opens-clause-plain : goal.returns-in_ok-push-in-Opens-clause-plain
returns-in_ok-push-in-Opens-clause-plain c = λ e. absurd (turn_rest e)

pub returns-in-Some-clause-plain : goal.returns-in-Some-clause-plain
returns-in-Some-clause-plain c = λ e. absurd (turn_rest e)
