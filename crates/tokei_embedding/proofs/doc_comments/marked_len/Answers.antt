use Rattle.std.proofs.Common.{◌≡◌, ◌<◌, ◌+◌, ◌-◌, ◌∙◌, length, take, drop, ap, sym, arith, length-drop}
use Rattle.std.proofs.lemmas.List.{take_rest, drop-drop}
use Rattle.std.proofs.lemmas.Grind.{common_steps}
use Rattle.tokei_embedding.proofs.Lines.{marked-stops, marked-goes}
use Rattle.tokei_embedding.specs.DocComments.{first_line, marked_len, lines_of}
use Rattle.tokei_table_row.specs.Bytes.{begins}
use Rattle.tokei_embedding.proofs.doc_comments.marked_len.Goals as goal

pub returns-then-not-starts_with-clause-value : goal.returns-then-not-starts_with-clause-value
returns-then-not-starts_with-clause-value c =
    let rest = drop c.loop-at.at c.args.text.now in
    let some : 0 < length rest = omega (arith, length-drop c.loop-at.at c.args.text.now) in
    let stop : marked_len c.args.mark.now (lines_of rest) ≡ 0 =
    marked-stops c.args.mark.now rest c.first_line-line.result.now some (c.first_line-line.ensures.value ∙ ap first_line (take_rest c.args.text.now c.loop-at.at))
    (ap (begins c.args.mark.now) (sym c.trim_start.ensures) ∙ sym c.starts_with.ensures.value ∙ c.if-not-starts_with.true) in
    omega (arith, stop, c.loop-at.invariant.0)

pub loop-at-preserved : goal.loop-at-preserved
loop-at-preserved c =
    let t = c.args.text.now in
    let rest = drop c.loop-at.at t in
    let line = c.first_line-line.result.now in
    let some : 0 < length rest = omega (arith, length-drop c.loop-at.at t) in
    let more : marked_len c.args.mark.now (lines_of rest) ≡ length line + marked_len c.args.mark.now (lines_of (drop (length line) rest)) =
    marked-goes c.args.mark.now rest line some (c.first_line-line.ensures.value ∙ ap first_line (take_rest t c.loop-at.at))
    (ap (begins c.args.mark.now) (sym c.trim_start.ensures) ∙ sym c.starts_with.ensures.value ∙ c.if-not-starts_with.false) in
    let on : marked_len c.args.mark.now (lines_of (drop (length line) rest)) ≡ marked_len c.args.mark.now (lines_of (drop (c.loop-at.at + length line) t)) =
    ap (λ w. marked_len c.args.mark.now (lines_of w)) (drop-drop (length line) c.loop-at.at t) in
    let fits : length (take (length t - c.loop-at.at) rest) ≡ length t - c.loop-at.at = ap length (take_rest t c.loop-at.at) ∙ length-drop c.loop-at.at t in
    (omega (arith, more, on, c.loop-at.invariant.0), omega (arith, fits, c.first_line-line.ensures.within, c.loop-at.invariant.1))

pub loop-at-smaller : goal.loop-at-smaller
loop-at-smaller c = omega arith

pub returns-clause-value : goal.returns-clause-value
returns-clause-value c = grind (arith, common_steps)
