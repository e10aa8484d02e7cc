use Rattle.std.proofs.Common.{◌≡◌, ℕ, ◌+◌, ◌-◌, ◌/◌, ◌^◌, ◌<◌, ◌≤◌, List, length, map, ap, ◌∙◌, arith}
use lib.Lanes.{chunk, mask_l}
use Rattle.tokei_bytes.specs.OneOf.{is_one_of}
use Rattle.tokei_bytes.proofs.Blocks.{in_block, none_before_mark, one_at_mark, none_in_block}
use Rattle.tokei_bytes.proofs.Rests.{mask_of_rest}
use Rattle.tokei_bytes.proofs.one_of.first_in_last_block.Goals as goal

-- the last block's mask without the places before `from` is that of the bytes from there on
marked_from : (bytes text : List ℕ) (from m : ℕ) → 32 ≤ length text → length text < from + 32 → from ≤ length text
    → m ≡ mask_l (map (is_one_of bytes) (chunk (length text - 32) 32 text))
    → m / 2 ^ (from - (length text - 32)) ≡ mask_l (map (is_one_of bytes) (chunk from (length text - from) text))
marked_from bytes text from m long short within e =
    let base : ℕ = length text - 32 in
    let k : ℕ = from - base in
    let here : base + k ≡ from = omega (arith, long, short, within) in
    let left : 32 - k ≡ length text - from = omega (arith, long, short, within) in
    mask_of_rest (is_one_of bytes) text base 32 k m (omega (arith, long, within)) e
    ∙ ap (λ i. mask_l (map (is_one_of bytes) (chunk i (32 - k) text))) here
    ∙ ap (λ w. mask_l (map (is_one_of bytes) (chunk from w text))) left

pub returns-then-left-eq0 : goal.returns-then-left-eq0
returns-then-left-eq0 c =
    let a = c.args in
    let text = a.text.now in
    let r = c.requires in
    let w : ℕ = length text - a.from in
    let m : ℕ = c.marks.result / 2 ^ (a.from - (length text - 32)) in
    let marked = marked_from a.bytes text a.from c.marks.result r.long r.short r.within c.marks.ensures in
    record {
      low = r.within;
      high = omega arith;
      passed = λ p low high. none_in_block (is_one_of a.bytes) w text a.from m (omega arith) (omega arith) marked c.if-left-eq0.true p low (omega (arith, high, r.within));
      found = λ inside. absurd (omega (arith, inside));
    }

pub returns : goal.returns
returns c =
    let a = c.args in
    let text = a.text.now in
    let r = c.requires in
    let w : ℕ = length text - a.from in
    let m : ℕ = c.marks.result / 2 ^ (a.from - (length text - 32)) in
    let marked = marked_from a.bytes text a.from c.marks.result r.long r.short r.within c.marks.ensures in
    record {
      low = omega arith;
      high = omega (arith, in_block (is_one_of a.bytes) w text a.from m (omega arith) (omega arith) marked c.if-left-eq0.false);
      passed = none_before_mark (is_one_of a.bytes) w text a.from m (omega arith) (omega arith) marked c.if-left-eq0.false;
      found = λ inside. one_at_mark (is_one_of a.bytes) w text a.from m (omega arith) (omega arith) marked c.if-left-eq0.false;
    }
