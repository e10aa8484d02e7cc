use Rattle.std.proofs.Common.{◌||◌, ◌∙◌, ap, length}
use Rattle.std.specs.List.{list_any}
use Rattle.tokei_bytes.specs.ByteSets.{is_in}
use Rattle.tokei_table.specs.FirstOpener.{is_first_of}
use Rattle.tokei_table.specs.RowOf.{row_of, tokens_of}
use Rattle.tokei_parts.specs.Matchers.{begins_comment, begins_in_comment}
use Rattle.tokei_parts.proofs.ByteFlags.{are_flags}
use Rattle.tokei_parts.proofs.PlainBytes.{flag_at, length-flags}
use Rattle.tokei_parts.proofs.beginnings.beginnings_of_comments.Goals as goal

pub returns : goal.returns
returns c =
    let r = row_of c.args.syntax.now in
    let within = c.beginnings_in_comment-begins.ensures in
    are_flags c.add_line_comments.new.begins (begins_comment r) 256
    (c.add_line_comments.ensures.long ∙ ap length within ∙ length-flags (begins_in_comment r) 256) (λ x lt.
    c.add_line_comments.ensures.each x
    ∙ ap (λ b. b || list_any (is_first_of x) (tokens_of c.deref.result.now)) (ap (λ fs. is_in fs x) within ∙ flag_at (begins_in_comment r) 256 x lt)
    ∙ ap (λ ts. begins_in_comment r x || list_any (is_first_of x) (tokens_of ts)) c.deref.ensures.value)
