use Rattle.std.proofs.Common.{◌≡◌, ◌<◌, true, length, drop, length-drop, ◌∙◌, ap, sym, arith}
use Rattle.std.proofs.lemmas.List.{take_rest}
use Rattle.tokei_table_row.specs.Bytes.{begins}
use Rattle.tokei_embedding.proofs.BlockLaws.{begins-fits}
use Rattle.tokei_embedding.proofs.Places.{first_where-found, first_where-none}
use Rattle.tokei_embedding.specs.Fences.{fence}
use Rattle.tokei_embedding.proofs.fences.closing_place.Goals as goal

pub returns-then-place-text-clause-value : goal.returns-then-place-text-clause-value
returns-then-place-text-clause-value c =
    let t = c.args.text.now in
    let e = c.next_backticks-place.ensures in
    sym (first_where-none (begins fence) t
    (λ j l. ap (begins fence) (sym (take_rest t j)) ∙ e.passed j (omega arith) (omega (arith, l, c.if-place-text.true))))

pub returns-clause-value : goal.returns-clause-value
returns-clause-value c =
    let t = c.args.text.now in
    let e = c.next_backticks-place.ensures in
    let place = c.next_backticks-place.result in
    let inside : place < length t = omega (arith, e.high, c.if-place-text.false) in
    sym (first_where-found (begins fence) t place inside (ap (begins fence) (sym (take_rest t place)) ∙ e.found inside)
    (λ j l. ap (begins fence) (sym (take_rest t j)) ∙ e.passed j (omega arith) l))

pub returns-clause-within : goal.returns-clause-within
returns-clause-within c =
    let t = c.args.text.now in
    let e = c.next_backticks-place.ensures in
    let place = c.next_backticks-place.result in
    let inside : place < length t = omega (arith, e.high, c.if-place-text.false) in
    let stands : begins fence (drop place t) ≡ true = ap (begins fence) (sym (take_rest t place)) ∙ e.found inside in
    omega (arith, begins-fits fence (drop place t) stands, length-drop place t)
