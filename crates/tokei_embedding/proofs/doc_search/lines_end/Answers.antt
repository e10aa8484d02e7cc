use Rattle.std.proofs.Common.{◌≡◌, ◌+◌, ◌∙◌, drop, ap}
use Rattle.std.proofs.lemmas.List.{take_rest}
use Rattle.tokei_embedding.proofs.DocEnds.{doc_end}
use Rattle.tokei_embedding.specs.DocComments.{marked_len, lines_of}
use Rattle.tokei_embedding.specs.Remembered.{sought}
use Rattle.tokei_embedding.proofs.doc_search.lines_end.Goals as goal

pub returns-clause-len : goal.returns-clause-len
returns-clause-len c = ap (λ n. c.args.from + n) (c.marked_len.ensures.value ∙ ap (λ t. marked_len c.args.mark.now (lines_of t)) (take_rest c.args.text.now c.args.from))

pub returns-clause-end : goal.returns-clause-end
returns-clause-end c =
    let len : c.marked_len.result
    ≡ marked_len c.args.mark.now (lines_of (drop c.args.from c.args.text.now)) =
    c.marked_len.ensures.value
    ∙ ap (λ t. marked_len c.args.mark.now (lines_of t)) (take_rest c.args.text.now c.args.from) in
    rw len (doc_end (sought c.args.text.now c.args.mark.now) c.args.from)
