use Rattle.std.proofs.Common.{◌-◌, arith}
use Rattle.tokei_bytes.proofs.Parts.{part_length, apart, stands_out}
use Rattle.tokei_bytes.proofs.near.first_far.Goals as goal

pub returns-in-Some : goal.returns-in-Some
returns-in-Some c =
    let a = c.args in
    let n = a.to - a.from in
    let long = part_length a.text.now a.from a.to c.requires.order c.requires.within in
    record {
      low = omega arith;
      high = omega (arith, long, c.in-Some.ensures.0.high);
      passed = apart a.text.now a.byte a.from n c.in-Some.at (omega (arith, long, c.in-Some.ensures.0.high)) c.in-Some.ensures.0.before;
      found = λ inside. stands_out a.text.now a.byte a.from n c.in-Some.at (omega (arith, long, c.in-Some.ensures.0.high)) c.in-Some.ensures.1;
    }

pub returns-in-None : goal.returns-in-None
returns-in-None c =
    let a = c.args in
    let n = a.to - a.from in
    let long = part_length a.text.now a.from a.to c.requires.order c.requires.within in
    record {
      low = c.requires.order;
      high = omega arith;
      passed = λ p low high. apart a.text.now a.byte a.from n n (omega arith) (λ k i j. c.in-None.ensures k i (omega (arith, long, j))) p low (omega (arith, high, c.requires.order));
      found = λ inside. absurd (omega (arith, inside));
    }
