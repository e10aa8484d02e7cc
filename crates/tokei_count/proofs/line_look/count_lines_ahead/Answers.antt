use Rattle.std.proofs.Common.{◌+◌, ◌≤◌, drop, ap, sym, subst, ◌∙◌, arith}
use Rattle.tokei_parts.specs.Glance.{opener_place}
use Rattle.tokei_table_row.specs.Bytes.{line_len}
use Rattle.tokei_parts.specs.ReadingOf.{openers_in}
use Rattle.tokei_parts.specs.LineMarks.{is_marked}
use Rattle.tokei_count.proofs.NearOpeners.{next_found, next_in_line}
use Rattle.tokei_count.proofs.line_look.count_lines_ahead.Goals as goal

pub returns-clause-next : goal.returns-clause-next
returns-clause-next c = λ inside.
    let e = c.look_ahead-blank.ensures in
    let r = c.args.reading.now in
    let to = c.look_ahead-blank.result.2 in
    next_found (openers_in r) (is_marked c.args.marks.now) r.text.now c.args.so_far.now.start to c.look_ahead-blank.result.0 e.look e.clear inside (e.found inside)
    ∙ ap (λ s. s + opener_place (openers_in r) (drop s r.text.now)) (sym c.in_ok-count_looked.ensures.start)

pub returns-clause-line : goal.returns-clause-line
returns-clause-line c = λ inside.
    let e = c.look_ahead-blank.ensures in
    let r = c.args.reading.now in
    let to = c.look_ahead-blank.result.2 in
    subst (λ s. to ≤ s + line_len (drop s r.text.now)) (sym c.in_ok-count_looked.ensures.start)
    (next_in_line (openers_in r) (is_marked c.args.marks.now) r.text.now c.args.so_far.now.start to c.look_ahead-blank.result.0 e.look e.clear inside (e.found inside))

pub returns-clause-high : goal.returns-clause-high
returns-clause-high c = λ inside.
    let e = c.look_ahead-blank.ensures in
    omega (arith, c.in_ok-count_looked.ensures.start, e.look.order, (e.found inside).order)
