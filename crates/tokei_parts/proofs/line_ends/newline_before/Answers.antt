use Rattle.std.proofs.Common.{◌≡◌, ◌+◌, ◌≤◌, ◌==◌, drop, length, ap, arith}
use Rattle.tokei_bytes.proofs.Blocks.{other_than, the_one}
use Rattle.tokei_table_row.specs.Bytes.{line_len}
use Rattle.tokei_parts.proofs.LineEnd.{ended, newline_at, newline_behind, sought}
use Rattle.tokei_parts.proofs.line_ends.newline_before.Goals as goal

pub returns-then-text-at-lt-BLOCK-clause-line : goal.returns-then-text-at-lt-BLOCK-clause-line
returns-then-text-at-lt-BLOCK-clause-line c =
    let e = c.first_of_one.ensures in
    let within : c.first_of_one.result ≤ length c.args.text.now = omega (arith, e.high, c.requires.within) in
    omega (arith, newline_behind c.args.text.now c.args.at c.first_of_one.result e.low within e.passed)

pub returns-then-text-at-lt-BLOCK-clause-found : goal.returns-then-text-at-lt-BLOCK-clause-found
returns-then-text-at-lt-BLOCK-clause-found c below =
    let e = c.first_of_one.ensures in
    newline_at c.args.text.now c.args.at c.first_of_one.result e.low (omega (arith, below, c.requires.within)) (e.found below) e.passed

pub returns-then-gap-lt-BLOCK-clause-line : goal.returns-then-gap-lt-BLOCK-clause-line
returns-then-gap-lt-BLOCK-clause-line c =
    let e = c.gap_in_block-gap.ensures in
    let place = c.args.at + c.gap_in_block-gap.result in
    let within : place ≤ length c.args.text.now = omega (arith, e.high, c.if-text-at-lt-BLOCK.false, c.requires.order, c.requires.within) in
    omega (arith, c.min.ensures, sought c.args.text.now c.args.at place e.low within e.passed)

pub returns-then-gap-lt-BLOCK-clause-found : goal.returns-then-gap-lt-BLOCK-clause-found
returns-then-gap-lt-BLOCK-clause-found c below =
    let e = c.gap_in_block-gap.ensures in
    let place = c.args.at + c.gap_in_block-gap.result in
    let here : c.min.result ≡ place = omega (arith, c.min.ensures, below) in
    let is : place ≡ c.args.at + line_len (drop c.args.at c.args.text.now) =
    newline_at c.args.text.now c.args.at place e.low
    (omega (arith, below, here, c.requires.within))
    (ap (λ b. b == 10) (the_one _ 10 (e.found (omega (arith, c.if-gap-lt-BLOCK.true)))))
    (λ k i j. other_than _ 10 (e.passed k i j)) in
    omega (arith, here, is)

pub returns-then-to-at-clause-line : goal.returns-then-to-at-clause-line
returns-then-to-at-clause-line c =
    let e = c.gap_in_block-gap.ensures in
    let place = c.args.at + c.gap_in_block-gap.result in
    let within : place ≤ length c.args.text.now = omega (arith, e.high, c.if-text-at-lt-BLOCK.false, c.requires.order, c.requires.within) in
    omega (arith, c.if-to-at.true, c.if-gap-lt-BLOCK.false, sought c.args.text.now c.args.at place e.low within e.passed)

pub returns-clause-line : goal.returns-clause-line
returns-clause-line c =
    let e = c.gap_in_block-gap.ensures in
    let place = c.args.at + c.gap_in_block-gap.result in
    let far = c.first_of_one-2.ensures in
    let within : place ≤ length c.args.text.now = omega (arith, e.high, c.if-text-at-lt-BLOCK.false, c.requires.order, c.requires.within) in
    let behind : c.first_of_one-2.result ≤ length c.args.text.now = omega (arith, far.high, c.requires.within) in
    omega (
      arith,
      newline_behind c.args.text.now (c.args.at + 32) c.first_of_one-2.result far.low behind far.passed,
      ended c.args.text.now c.args.at place (c.args.at + 32)
          (omega (arith, e.high, c.if-gap-lt-BLOCK.false))
          (sought c.args.text.now c.args.at place e.low within e.passed),
    )

pub returns-clause-found : goal.returns-clause-found
returns-clause-found c below =
    let e = c.gap_in_block-gap.ensures in
    let place = c.args.at + c.gap_in_block-gap.result in
    let far = c.first_of_one-2.ensures in
    let within : place ≤ length c.args.text.now = omega (arith, e.high, c.if-text-at-lt-BLOCK.false, c.requires.order, c.requires.within) in
    omega (
      arith,
      newline_at c.args.text.now (c.args.at + 32) c.first_of_one-2.result far.low (omega (arith, below, c.requires.within)) (far.found below) far.passed,
      ended c.args.text.now c.args.at place (c.args.at + 32)
          (omega (arith, e.high, c.if-gap-lt-BLOCK.false))
          (sought c.args.text.now c.args.at place e.low within e.passed),
    )
