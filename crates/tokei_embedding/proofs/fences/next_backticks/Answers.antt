use Rattle.std.proofs.Common.{◌≡◌, ◌+◌, ◌-◌, ◌<◌, length, take, get_or, arith}
use Rattle.std.proofs.lemmas.Bool.Decides.{Decides-eqb}
use Rattle.std.proofs.lemmas.List.{length-take-le}
use Rattle.std.proofs.lemmas.Grind.{common_steps}
use Rattle.tokei_embedding.proofs.Backticks.{none_until, before_third, over_one, none_left, too_short}
use Rattle.tokei_embedding.proofs.Backticks.{apart_in_front, read_there, none_in_part, three_stand}
use Rattle.tokei_embedding.proofs.fences.next_backticks.Goals as goal

pub returns-then-third-to-clause-passed : goal.returns-then-third-to-clause-passed
returns-then-third-to-clause-passed c =
    let a = c.args in
    let t = take a.to a.text.now in
    let at = c.loop-at.at in
    let third = c.first_of_one-third.result in
    let e = c.first_of_one-third.ensures in
    let whole : length t ≡ a.to = length-take-le a.to a.text.now c.requires.within in
    let apart = apart_in_front a.text.now (at + 2) third a.to e.high e.passed in
    none_in_part a.text.now a.from a.to a.to (omega arith)
    (λ p. none_until t a.from at a.to p c.loop-at.invariant.none
    (λ q l m. none_left t at third q (omega (arith, whole, c.if-third-to.true)) apart l))

pub loop-at-preserved-then-text-third-ne96 : goal.loop-at-preserved-then-text-third-ne96
loop-at-preserved-then-text-third-ne96 c =
    let a = c.args in
    let t = take a.to a.text.now in
    let at = c.loop-at.at in
    let third = c.first_of_one-third.result in
    let e = c.first_of_one-third.ensures in
    let apart = apart_in_front a.text.now (at + 2) third a.to e.high e.passed in
    record {
      low = omega (arith, c.loop-at.invariant.low, e.low);
      high = e.high;
      none = λ p. none_until t a.from at third p c.loop-at.invariant.none
          (λ q l m. over_one t at third q apart (λ h. c.if-text-third-ne96.true (read_there a.text.now (third - 1) a.to (omega (arith, e.low, e.high)) h)) e.low l m);
    }

pub returns-else-text-third-ne96-2-clause-passed : goal.returns-else-text-third-ne96-2-clause-passed
returns-else-text-third-ne96-2-clause-passed c =
    let a = c.args in
    let t = take a.to a.text.now in
    let at = c.loop-at.at in
    let third = c.first_of_one-third.result in
    let e = c.first_of_one-third.ensures in
    let apart = apart_in_front a.text.now (at + 2) third a.to e.high e.passed in
    none_in_part a.text.now a.from (third - 2) a.to (omega (arith, e.high))
    (λ p. none_until t a.from at (third - 2) p c.loop-at.invariant.none
    (λ q l m. before_third t at third q apart l (omega (arith, m))))

pub returns-else-text-third-ne96-2-clause-found : goal.returns-else-text-third-ne96-2-clause-found
returns-else-text-third-ne96-2-clause-found c l =
    let a = c.args in
    let e = c.first_of_one-third.ensures in
    let inside : c.first_of_one-third.result < a.to = omega (arith, e.high, c.if-third-to.false) in
    three_stand a.text.now c.first_of_one-third.result a.to (omega (arith, e.low)) inside c.requires.within
    ((Decides-eqb (get_or a.text.now c.first_of_one-third.result 0) 96).0 (e.found inside)) c.if-text-third-ne96.false c.if-text-third-ne96-2.false

pub returns-clause-passed : goal.returns-clause-passed
returns-clause-passed c =
    let a = c.args in
    let t = take a.to a.text.now in
    let whole : length t ≡ a.to = length-take-le a.to a.text.now c.requires.within in
    none_in_part a.text.now a.from a.to a.to (omega arith)
    (λ p. none_until t a.from c.loop-at.at a.to p c.loop-at.invariant.none
    (λ q l m. too_short t q (omega (arith, whole, l, c.loop-at-test.false))))

pub loop-at-preserved : goal.loop-at-preserved
loop-at-preserved c = grind (arith, common_steps)
