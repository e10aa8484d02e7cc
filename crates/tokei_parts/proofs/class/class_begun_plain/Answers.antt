use Rattle.std.proofs.Common.{◌≡◌, ◌-◌, ◌∙◌, List, ℕ, None, drop, take, false, sym, ap}
use Rattle.tokei_table.specs.Row.{Row}
use Rattle.tokei_parts.specs.Class.{class_of, in_doc_string}
use Rattle.tokei_parts.specs.Items.{Mode}
use Rattle.tokei_parts.specs.ReadingOf.{row_in}
use Rattle.tokei_parts.specs.SeenChoices.{mode_of}
use Rattle.tokei_parts.specs.declared.reading.Reading.{Reading}
use Rattle.tokei_parts.specs.Modes.{innermost}
use Rattle.tokei_parts.specs.Seen.{chain_of}
use Rattle.tokei_parts.proofs.CodeHeads.{quiet_part}
use Rattle.tokei_parts.proofs.class.class_begun_plain.Goals as goal

pub returns : goal.returns
returns c =
    let r : Reading = c.args.reading.now in
    let part : List ℕ = take (c.args.stop - c.args.start) (drop c.args.start r.text.now) in
    let begun : Mode = None in
    c.class_of.ensures
    ∙ ap (λ (g : Row). class_of g r.docs_are_comments (record { begun = begun; bytes = part; ended = mode_of c.innermost-ended.result })) r.row
    ∙ ap (λ (m : Mode). class_of (row_in r) r.docs_are_comments (record { begun = begun; bytes = part; ended = m })) c.innermost-ended.ensures

pub returns-then-begins_no_comment-2 : goal.returns-then-begins_no_comment-2
returns-then-begins_no_comment-2 c =
    let r : Reading = c.args.reading.now in
    let e = c.blanks_end-head.ensures in
    let literate : (row_in r).literate ≡ false = ap (λ (g : Row). g.literate) (sym r.row) ∙ c.if-not-reading.true in
    sym (quiet_part (row_in r) r.sound r.matchers.now r.matched r.docs_are_comments (innermost (chain_of c.args.stack.now)) literate
    (sym (ap in_doc_string c.innermost-ended.ensures) ∙ sym c.in_doc_string.ensures ∙ c.if-not-in_doc_string.true)
    r.text.now c.args.start c.args.stop c.blanks_end-head.result e.low c.if-head-stop.true c.requires.within e.blank (e.found c.if-head-stop.true)
    (c.begins_no_comment.ensures c.if-begins_no_comment.true) (c.begins_no_comment-then-begins_no_comment.ensures c.if-begins_no_comment-2.true))
