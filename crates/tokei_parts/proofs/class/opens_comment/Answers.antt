use Rattle.std.proofs.Common.{◌≡◌, ◌∙◌, ◌||◌, ℕ, ◌-◌, ◌<◌, Bool, false, true, List, drop, take, sym, ap, arith}
use Rattle.tokei_table.specs.Row.{Row}
use Rattle.tokei_table_row.specs.RowOf.{pairs_of, row_of}
use Rattle.tokei_parts.specs.Class.{keeps_columns}
use Rattle.tokei_parts.specs.CommentHeads.{OpensComment, opens_solid}
use Rattle.tokei_parts.proofs.CodeHeads.{front_is}
use Rattle.tokei_parts.proofs.CommentHeads.{comment_opens, part_behind}
use Rattle.tokei_parts.proofs.class.opens_comment.Goals.{After-opens_solid, else-start-head-via-then-start-head+else-keeps_columns, else-start-head-via-else-start-head}
use Rattle.tokei_parts.proofs.class.opens_comment.Goals as goal

-- a comment opens at the head of the part, where one of the lists has its pair
opens : (c : After-opens_solid)
    → (opens_solid (row_of c.args.syntax.now).multi_line_comments (take (c.args.stop - c.blanks_end-head.result) (drop c.blanks_end-head.result c.args.text.now)) c.args.closer.now
    || opens_solid (row_of c.args.syntax.now).nested_comments (take (c.args.stop - c.blanks_end-head.result) (drop c.blanks_end-head.result c.args.text.now)) c.args.closer.now) ≡ true
    → OpensComment (row_of c.args.syntax.now) (take (c.args.stop - c.args.start) (drop c.args.start c.args.text.now)) c.args.closer.now
opens c h =
    let text : List ℕ = c.args.text.now in
    let start : ℕ = c.args.start in
    let stop : ℕ = c.args.stop in
    let head : ℕ = c.blanks_end-head.result in
    let g : Row = row_of c.args.syntax.now in
    let e = c.blanks_end-head.ensures in
    let columns : 0 < head - start → keeps_columns g.key ≡ false = λ more. elim c.else-start-head.branch [
      | else-start-head-via-then-start-head+else-keeps_columns w ↦ ap keeps_columns (sym w.as_str.ensures.value) ∙ sym w.keeps_columns.ensures ∙ w.if-keeps_columns.false
      | else-start-head-via-else-start-head w ↦ absurd (omega (arith, more, w.if-start-head.false))
    ] in
    comment_opens g (take (stop - start) (drop start text)) c.args.closer.now (head - start)
    (front_is text start stop head e.low e.high c.requires.within e.blank e.found) columns
    (ap (λ u. opens_solid g.multi_line_comments u c.args.closer.now || opens_solid g.nested_comments u c.args.closer.now) (sym (part_behind text start head stop e.low e.high)) ∙ h)

pub returns-then-opens_solid : goal.returns-then-opens_solid
returns-then-opens_solid c = λ is.
    let text : List ℕ = c.args.text.now in
    let g : Row = row_of c.args.syntax.now in
    let behind : List ℕ = take (c.args.stop - c.blanks_end-head.result) (drop c.blanks_end-head.result text) in
    let found : opens_solid g.multi_line_comments behind c.args.closer.now ≡ true =
    ap (λ pairs. opens_solid (pairs_of pairs) behind c.args.closer.now) (sym c.deref.ensures.value) ∙ sym c.opens_solid.ensures ∙ is in
    opens (goal.at.returns-then-opens_solid c).After-opens_solid (ap (λ (x : Bool). x || opens_solid g.nested_comments behind c.args.closer.now) found)

pub returns-else-opens_solid : goal.returns-else-opens_solid
returns-else-opens_solid c = λ is.
    let text : List ℕ = c.args.text.now in
    let g : Row = row_of c.args.syntax.now in
    let behind : List ℕ = take (c.args.stop - c.blanks_end-head.result) (drop c.blanks_end-head.result text) in
    let none : opens_solid g.multi_line_comments behind c.args.closer.now ≡ false =
    ap (λ pairs. opens_solid (pairs_of pairs) behind c.args.closer.now) (sym c.deref.ensures.value) ∙ sym c.opens_solid.ensures ∙ c.if-opens_solid.false in
    let found : opens_solid g.nested_comments behind c.args.closer.now ≡ true =
    ap (λ pairs. opens_solid (pairs_of pairs) behind c.args.closer.now) (sym c.deref-else-opens_solid.ensures.value) ∙ sym c.opens_solid-else-opens_solid.ensures ∙ is in
    opens (goal.at.returns-else-opens_solid c).After-opens_solid (ap (λ (x : Bool). x || opens_solid g.nested_comments behind c.args.closer.now) none ∙ found)
