use Rattle.std.proofs.Common.{◌≡◌, ◌+◌, ◌∙◌, suc, ap, take, arith}
use Rattle.tokei_embedding.proofs.Lines.{first_line-at, first_line-all}
use Rattle.tokei_embedding.proofs.doc_comments.first_line.Goals as goal

pub returns-then-newline-text-clause-value : goal.returns-then-newline-text-clause-value
returns-then-newline-text-clause-value c =
    let t = c.args.text.now in
    let e = c.first_of_one-newline.ensures in
    let at = c.first_of_one-newline.result in
    let more : at + 1 ≡ suc at = omega arith in
    ap (λ n. take n t) more ∙ first_line-at t at c.if-newline-text.true (e.found c.if-newline-text.true) (λ j i. e.passed j (omega arith) i)

pub returns-else-newline-text-clause-value : goal.returns-else-newline-text-clause-value
returns-else-newline-text-clause-value c =
    let t = c.args.text.now in
    let e = c.first_of_one-newline.ensures in
    first_line-all t (λ j i. e.passed j (omega arith) (omega (arith, i, c.if-newline-text.false)))
