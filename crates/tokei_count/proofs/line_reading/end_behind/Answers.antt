use Rattle.std.proofs.Common.{◌≡◌, ◌+◌, ◌≤◌, ℕ, List, length, drop, refl, sym, ◌∙◌, ap, arith}
use Rattle.tokei_table_row.specs.Bytes.{line_len}
use Rattle.tokei_parts.proofs.Leading.{rest_is}
use Rattle.tokei_parts.proofs.LineEnds.{end_within, end_later}
use Rattle.tokei_count.proofs.line_reading.end_behind.Goals as goal

-- the place that is clear stands in the text
within : (text : List ℕ) (start clear : ℕ) → start ≤ length text → clear ≤ start + line_len (drop start text) → clear ≤ length text
within text start clear h k = omega (arith, k, end_within text start (start + line_len (drop start text)) h refl)

pub slice_bounds-line_len-count : goal.slice_bounds-line_len-count
slice_bounds-line_len-count c = omega (arith, within c.args.text.now c.args.start c.args.clear c.requires.start c.requires.clear)

pub slice_bounds-line_len-start : goal.slice_bounds-line_len-start
slice_bounds-line_len-start c = omega (arith, within c.args.text.now c.args.start c.args.clear c.requires.start c.requires.clear)

pub returns : goal.returns
returns c =
    let text : List ℕ = c.args.text.now in
    let later : c.args.start + line_len (drop c.args.start text)
    ≡ c.args.clear + line_len (drop c.args.clear text) =
    end_later text c.args.start c.args.clear (c.args.start + line_len (drop c.args.start text))
    c.requires.behind refl c.requires.clear in
    ap (λ n. c.args.clear + n) (c.line_len.ensures.value ∙ ap line_len (rest_is c.args.clear text)) ∙ sym later
