use Rattle.std.proofs.Common.{◌≡◌, ℕ, List, [], Some, None, ◌-◌, drop, take, true, false, sym, ap, subst, ◌∙◌, refl}
use Rattle.tokei_table.specs.Bytes.{trim_start}
use Rattle.tokei_table.specs.Row.{Row}
use Rattle.tokei_parts.specs.Class.{class_of}
use Rattle.tokei_parts.specs.CommentHeads.{HasCommentHead}
use Rattle.tokei_parts.specs.ReadingOf.{row_in}
use Rattle.tokei_parts.specs.declared.reading.Reading.{Reading}
use Rattle.tokei_parts.proofs.CodeHeads.{code_head, literate_head, blank_part}
use Rattle.tokei_parts.proofs.CommentHeads.{comment_line}
use Rattle.tokei_parts.proofs.class.class_of_plain.Goals as goal

-- the bytes of the part
abbrev bytes : List ℕ → ℕ → ℕ → List ℕ
bytes text start stop = take (stop - start) (drop start text)

pub returns-in-Some-Blank : goal.returns-in-Some-Blank
returns-in-Some-Blank c =
    let r : Reading = c.args.reading.now in
    let blank : trim_start (bytes c.args.text.now c.args.start c.args.stop) ≡ [] =
    c.class_by_front.ensures.blank (c.in-Some-Blank.is ∙ ap Some c.in-Some-Blank.field-0-is) in
    sym (blank_part (row_in r) r.docs_are_comments (bytes c.args.text.now c.args.start c.args.stop) None blank)

pub returns-in-Some-Code : goal.returns-in-Some-Code
returns-in-Some-Code c =
    let r : Reading = c.args.reading.now in
    let literate : (row_in r).literate ≡ true = ap (λ (g : Row). g.literate) (sym r.row) ∙ c.if-syntax.true in
    sym (literate_head (row_in r) r.docs_are_comments r.matchers.now (bytes c.args.text.now c.args.start c.args.stop) None literate
    (c.class_by_front.ensures.code (c.in-Some-Code.is ∙ ap Some c.in-Some-Code.field-0-is)))

pub returns-in-Some-Code-2 : goal.returns-in-Some-Code-2
returns-in-Some-Code-2 c =
    let r : Reading = c.args.reading.now in
    let literate : (row_in r).literate ≡ false = ap (λ (g : Row). g.literate) (sym r.row) ∙ c.if-syntax.false in
    sym (code_head (row_in r) r.sound r.matchers.now r.matched r.docs_are_comments None literate refl (bytes c.args.text.now c.args.start c.args.stop)
    (c.class_by_front.ensures.code (c.in-Some-Code.is ∙ ap Some c.in-Some-Code-2.field-0-is)))

pub returns-in_default : goal.returns-in_default
returns-in_default c =
    let r : Reading = c.args.reading.now in
    let part : List ℕ = bytes c.args.text.now c.args.start c.args.stop in
    sym (comment_line (row_in r) r.docs_are_comments part (subst (λ (g : Row). HasCommentHead g part) r.row (c.begins_comment.ensures c.if-begins_comment.true)))

pub returns-in_default-2 : goal.returns-in_default-2
returns-in_default-2 c =
    let r : Reading = c.args.reading.now in
    c.class_of_line.ensures
    ∙ ap (λ (g : Row). class_of g r.docs_are_comments (record { begun = None; bytes = bytes c.args.text.now c.args.start c.args.stop; ended = None })) r.row
