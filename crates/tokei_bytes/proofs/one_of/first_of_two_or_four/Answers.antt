use Rattle.std.proofs.Common.{◌≡◌, ℕ, ◌⊎◌, ◌∙◌, inl, inr, get_or, length, slice_index, rules}
use Rattle.tokei_bytes.proofs.Repeats.{two_twice}
use Rattle.tokei_bytes.proofs.one_of.first_of_two_or_four.Goals as goal

pub returns-then-c-b : goal.returns-then-c-b
returns-then-c-b c =
    let bytes = c.args.bytes in
    let four : length bytes ≡ 4 = search rules in
    let third : (get_or bytes 2 0 ≡ get_or bytes 0 0) ⊎ (get_or bytes 2 0 ≡ get_or bytes 1 0) = elim c.if-c-b.either [
      | inl e ↦ inl e
      | inr e ↦ inr e.1
    ] in
    let same = λ (p : ℕ). two_twice bytes (slice_index c.args.text.now p) four third c.if-d-b.true in
    let e = c.first_of_four.ensures in
    record {
      low = e.low;
      high = e.high;
      passed = λ p low high. same p ∙ e.passed p low high;
      found = λ inside. same c.first_of_four.result ∙ e.found inside;
    }
