use Rattle.std.proofs.Common.{◌==◌, ◌||◌, ◌∙◌, ap, false, length}
use Rattle.std.proofs.lemmas.List.{get_or-replicate, length-replicate}
use Rattle.std.specs.List.{list_any}
use Rattle.tokei_bytes.specs.ByteSets.{is_in}
use Rattle.tokei_table.specs.FirstOpener.{is_first_of}
use Rattle.tokei_table.specs.RowOf.{row_of, pairs_of, tokens_of}
use Rattle.tokei_parts.specs.Matchers.{begins_opener, begins_choice}
use Rattle.tokei_parts.proofs.ByteFlags.{are_flags, in_plain}
use Rattle.tokei_parts.proofs.beginnings.beginnings.Goals as goal

pub returns : goal.returns
returns c =
    let r = row_of c.args.syntax.now in
    let none = c.empty-begins.ensures in
    let long =
    c.add_tokens.ensures.long ∙ c.add_openers-5.ensures.long ∙ c.add_openers-4.ensures.long
    ∙ c.add_openers-3.ensures.long ∙ c.add_openers-2.ensures.long ∙ c.add_openers.ensures.long
    ∙ c.insert.ensures.long ∙ ap length none ∙ length-replicate 256 false in
    are_flags c.add_tokens.new.begins (begins_choice r) 256 long (λ x lt.
    in_plain r x _ _ _ _ _ _ _
    (c.insert.ensures.each x
    ∙ ap (λ fs. is_in fs x || (x == 92)) none ∙ ap (λ b. b || (x == 92)) (get_or-replicate 256 x false false lt))
    (c.add_openers.ensures.each x
    ∙ ap (λ ps. is_in c.insert.new.self x || begins_opener (pairs_of ps) x) c.deref.ensures.value)
    (c.add_openers-2.ensures.each x
    ∙ ap (λ ps. is_in c.add_openers.new.begins x || begins_opener (pairs_of ps) x) c.deref-2.ensures.value)
    (c.add_openers-3.ensures.each x
    ∙ ap (λ ps. is_in c.add_openers-2.new.begins x || begins_opener (pairs_of ps) x) c.deref-3.ensures.value)
    (c.add_openers-4.ensures.each x
    ∙ ap (λ ps. is_in c.add_openers-3.new.begins x || begins_opener (pairs_of ps) x) c.deref-4.ensures.value)
    (c.add_openers-5.ensures.each x
    ∙ ap (λ ps. is_in c.add_openers-4.new.begins x || begins_opener (pairs_of ps) x) c.deref-5.ensures.value)
    (c.add_tokens.ensures.each x
    ∙ ap (λ ts. is_in c.add_openers-5.new.begins x || list_any (is_first_of x) (tokens_of ts)) c.deref-6.ensures.value))
