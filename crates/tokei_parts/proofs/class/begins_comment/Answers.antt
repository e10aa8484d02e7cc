use Rattle.std.proofs.Common.{◌≡◌, ◌∙◌, ℕ, ◌-◌, ◌<◌, ◌≤◌, false, true, List, drop, take, sym, ap, arith}
use Rattle.tokei_table.specs.Row.{Row}
use Rattle.tokei_table_row.specs.RowOf.{row_of, tokens_of}
use Rattle.tokei_parts.specs.Class.{keeps_columns}
use Rattle.tokei_parts.specs.CommentHeads.{any_solid_begins}
use Rattle.tokei_parts.proofs.CodeHeads.{blanks, front_is}
use Rattle.tokei_parts.proofs.CommentHeads.{comment_head, part_behind}
use Rattle.tokei_parts.proofs.class.begins_comment.Goals.{else-start-head-via-then-start-head+else-keeps_columns, else-start-head-via-else-start-head}
use Rattle.tokei_parts.proofs.class.begins_comment.Goals as goal

pub returns : goal.returns
returns c = λ is.
    let text : List ℕ = c.args.text.now in
    let start : ℕ = c.args.start in
    let stop : ℕ = c.args.stop in
    let head : ℕ = c.blanks_end-head.result in
    let g : Row = row_of c.args.syntax.now in
    let e = c.blanks_end-head.ensures in
    let low : start ≤ head = omega (arith, c.requires.low, e.low) in
    let blank = blanks text start c.args.solid head c.requires.solid e.blank in
    let columns : 0 < head - start → keeps_columns g.key ≡ false = λ more. elim c.else-start-head.branch [
      | else-start-head-via-then-start-head+else-keeps_columns w ↦ ap keeps_columns (sym w.as_str.ensures.value) ∙ sym w.keeps_columns.ensures ∙ w.if-keeps_columns.false
      | else-start-head-via-else-start-head w ↦ absurd (omega (arith, more, w.if-start-head.false))
    ] in
    let found : any_solid_begins g.line_comment (drop (head - start) (take (stop - start) (drop start text))) ≡ true =
    ap (any_solid_begins g.line_comment) (sym (part_behind text start head stop low e.high))
    ∙ ap (λ tokens. any_solid_begins (tokens_of tokens) (take (stop - head) (drop head text))) (sym c.deref.ensures.value) ∙ sym c.any_solid_begins.ensures ∙ is in
    comment_head g (take (stop - start) (drop start text)) (head - start) (front_is text start stop head low e.high c.requires.within blank e.found) found columns
