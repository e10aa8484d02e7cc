use Rattle.std.proofs.Common.{◌<◌, length, drop, sym, ◌∙◌, ap, arith, length-drop}
use Rattle.std.proofs.lemmas.Grind.{common_steps}
use Rattle.tokei_table.specs.FirstOpener.{first_opener}
use Rattle.tokei_parts.proofs.Leading.{rest_is}
use Rattle.tokei_parts.proofs.OpenersInLines.{first-below, place_within}
use Rattle.tokei_parts.proofs.glance.next_opener.Goals as goal

pub overflow_add-result : goal.overflow_add-result
overflow_add-result c =
    let below : c.in-Some.at < length (drop c.args.start c.args.text.now) =
    first-below c.args.matchers.now.openers (drop c.args.start c.args.text.now) c.in-Some.at
    (sym c.in-Some.is ∙ c.first_in.ensures
    ∙ ap (first_opener c.args.matchers.now.openers)
    (rest_is c.args.start c.args.text.now)) in
    omega (arith, below, length-drop c.args.start c.args.text.now, c.requires.start)

pub returns-then-start-next-clause-within : goal.returns-then-start-next-clause-within
returns-then-start-next-clause-within c =
    omega (arith, c.requires.known c.if-start-next.true, place_within c.args.matchers.now.openers (drop c.args.start c.args.text.now), length-drop c.args.start c.args.text.now, c.requires.start)

pub returns-in-Some-clause-within : goal.returns-in-Some-clause-within
returns-in-Some-clause-within c =
    let below : c.in-Some.at < length (drop c.args.start c.args.text.now) =
    first-below c.args.matchers.now.openers (drop c.args.start c.args.text.now) c.in-Some.at
    (sym c.in-Some.is ∙ c.first_in.ensures
    ∙ ap (first_opener c.args.matchers.now.openers)
    (rest_is c.args.start c.args.text.now)) in
    omega (arith, below, length-drop c.args.start c.args.text.now, c.requires.start)

pub returns-in-None-clause-place : goal.returns-in-None-clause-place
returns-in-None-clause-place c = grind (arith, common_steps)

pub returns-in-Some-clause-place : goal.returns-in-Some-clause-place
returns-in-Some-clause-place c = grind (arith, common_steps)
