use Rattle.std.proofs.Common.{◌≡◌, ◌∙◌, ℕ, length, rules}
use Rattle.tokei_bytes.proofs.Repeats.{counts_by_front, counts_by_last}
use Rattle.tokei_bytes.proofs.pairs.next_pair.Goals as goal

pub returns-then-first-b : goal.returns-then-first-b
returns-then-first-b c =
    let a = c.args in
    let e = c.of_two_between.ensures in
    let four : length a.bytes ≡ 4 = search rules in
    let all : length a.seconds ≡ 4 = search rules in
    let same = λ (p : ℕ). counts_by_last a.bytes a.first a.seconds a.text.now p four all
    c.if-c-a.true c.if-d-b.true c.if-q-second.true c.if-r-second.true c.if-s-second.true c.if-first-b.true in
    record {
      low = e.low;
      inside = e.inside;
      passed = λ p low high. same p ∙ e.passed p low high;
      found = λ before within. same c.of_two_between.result ∙ e.found before within;
    }

pub returns-then-first-a : goal.returns-then-first-a
returns-then-first-a c =
    let a = c.args in
    let e = c.of_two_between-then-first-a.ensures in
    let four : length a.bytes ≡ 4 = search rules in
    let all : length a.seconds ≡ 4 = search rules in
    let same = λ (p : ℕ). counts_by_front a.bytes a.first a.seconds a.text.now p four all
    c.if-c-a.true c.if-d-b.true c.if-q-second.true c.if-r-second.true c.if-s-second.true c.if-first-a.true in
    record {
      low = e.low;
      inside = e.inside;
      passed = λ p low high. same p ∙ e.passed p low high;
      found = λ before within. same c.of_two_between-then-first-a.result ∙ e.found before within;
    }

pub returns : goal.returns
returns c =
    let e = c.pair_between.ensures in
    record { low = e.low; inside = e.inside; passed = e.passed; found = e.found }
