use Rattle.std.proofs.Common.{◌==◌, ◌||◌, ◌∙◌, ap, false, length}
use Rattle.std.proofs.lemmas.List.{get_or-replicate, length-replicate}
use Rattle.tokei_bytes.specs.ByteSets.{is_in}
use Rattle.tokei_table.specs.RowOf.{row_of, pairs_of}
use Rattle.tokei_parts.specs.Matchers.{begins_opener, begins_in_comment}
use Rattle.tokei_parts.proofs.ByteFlags.{are_flags, in_comment}
use Rattle.tokei_parts.proofs.beginnings.beginnings_in_comment.Goals as goal

pub returns : goal.returns
returns c =
    let r = row_of c.args.syntax.now in
    let none = c.empty-begins.ensures in
    let long =
    c.add_in_comment-2.ensures.long ∙ c.add_in_comment.ensures.long ∙ c.insert.ensures.long ∙ ap length none ∙ length-replicate 256 false in
    are_flags c.add_in_comment-2.new.begins (begins_in_comment r) 256 long (λ x lt.
    in_comment r x _ _ _
    (c.insert.ensures.each x ∙ ap (λ fs. is_in fs x || (x == 92)) none ∙ ap (λ b. b || (x == 92)) (get_or-replicate 256 x false false lt))
    (c.add_in_comment.ensures.each x ∙ ap (λ ps. is_in c.insert.new.self x || begins_opener (pairs_of ps) x) c.deref.ensures.value)
    (c.add_in_comment-2.ensures.each x ∙ ap (λ ps. is_in c.add_in_comment.new.begins x || begins_opener (pairs_of ps) x) c.deref-2.ensures.value))
