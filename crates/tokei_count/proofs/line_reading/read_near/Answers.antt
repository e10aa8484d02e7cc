use Rattle.std.proofs.Common.{◌≡◌, ℕ, ◌≤◌, ◌+◌, List, drop, sym, refl, subst, arith}
use Rattle.tokei_table_row.specs.Bytes.{line_len}
use Rattle.tokei_count.specs.UnderWay.{IsUnderWay}
use Rattle.tokei_count.specs.declared.text_reading.ReadSoFar.{ReadSoFar}
use Rattle.tokei_count.proofs.Refusals.{answered}
use Rattle.tokei_count.proofs.Skipping.{stays}
use Rattle.tokei_count.proofs.line_reading.read_near.Goals as goal
use Rattle.tokei_count.proofs.line_reading.read_near.Goals.{then-len-gt1+in_ok-read_nested-in_default, else-len-gt1+in-Plain-Some+in_ok-read_lines-in-Plain-Some}

-- no place lies behind the text's first without going on
none_on : (a b : ℕ) → a ≤ b → b ≤ 0 → b ≡ a
none_on a b low none = omega arith

pub returns-else-so_far-start : goal.returns-else-so_far-start
returns-else-so_far-start c =
    let start : ℕ = c.args.so_far.now.start in
    let low : start ≤ c.if-len-gt1.so_far.start = elim c.if-len-gt1.branch [
      | then-len-gt1+in_ok-read_nested-in_default w ↦ subst (λ (p : ReadSoFar). start ≤ p.start) (sym w.so_far-is) w.in_ok-read_nested-in_default.ensures.low
      | else-len-gt1+in-Plain-Some+in_ok-read_lines-in-Plain-Some w ↦
          subst (λ (p : ReadSoFar). start ≤ p.start) (sym w.so_far-is) w.in_ok-read_lines-in-Plain-Some.ensures.low
    ] in record {
      under_way = elim c.if-len-gt1.branch [
        | then-len-gt1+in_ok-read_nested-in_default w ↦ subst (IsUnderWay c.args.reading.now) (sym w.so_far-is) w.in_ok-read_nested-in_default.ensures.under_way
        | else-len-gt1+in-Plain-Some+in_ok-read_lines-in-Plain-Some w ↦
            subst (IsUnderWay c.args.reading.now) (sym w.so_far-is) w.in_ok-read_lines-in-Plain-Some.ensures.under_way
      ];
      low = low;
      line = λ none. absurd (c.if-so_far-start.false (none_on start c.if-len-gt1.so_far.start low none));
      quiet = λ skipped none. refl;
      overflow = λ is fits. answered _ _ is;
    }

pub returns-then-so_far-start : goal.returns-then-so_far-start
returns-then-so_far-start c =
    let text : List ℕ = c.args.reading.now.text.now in
    let start : ℕ = c.args.so_far.now.start in record {
      under_way = elim c.if-len-gt1.branch [
        | then-len-gt1+in_ok-read_nested-in_default w ↦ subst (IsUnderWay c.args.reading.now) (sym w.so_far-is) w.in_ok-read_nested-in_default.ensures.under_way
        | else-len-gt1+in-Plain-Some+in_ok-read_lines-in-Plain-Some w ↦
            subst (IsUnderWay c.args.reading.now) (sym w.so_far-is) w.in_ok-read_lines-in-Plain-Some.ensures.under_way
      ];
      low = subst (λ (n : ℕ). start ≤ n) (sym c.if-so_far-start.true) (stays start);
      line = subst (λ (n : ℕ). n ≤ c.args.end → c.args.end ≡ n + line_len (drop n text)) (sym c.if-so_far-start.true) c.requires.line;
      quiet = λ skipped none. refl;
      overflow = λ is fits. answered _ _ is;
    }
