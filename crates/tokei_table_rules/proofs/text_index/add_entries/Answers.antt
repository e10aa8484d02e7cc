use Rattle.std.proofs.Common.{◌+◌, ◌++◌, [], ◌∷◌, ◌∙◌, ap, sym, drop, append_assoc, arith}
use Rattle.std.proofs.lemmas.Grind.{common_steps}
use Rattle.std.proofs.lemmas.List.{at_drop_more}
use Rattle.std.specs.Prelude.{string_bytes}
use Rattle.tokei_table_row.specs.RowOf.{tokens_of}
use Rattle.tokei_table_rules.specs.TextIndex.{group_of, entries_of}
use Rattle.tokei_table_rules.proofs.text_index.add_entries.Goals as goal

pub loop-text-preserved : goal.loop-text-preserved
loop-text-preserved c =
    let texts = c.args.texts.now in
    let i = c.loop-text.text-index in
    let p = c.args.place in
    let before = c.loop-text.entries.items in
    let later = entries_of p (tokens_of (drop (i + 1) texts)) in
    ap (λ es. es ++ later) c.in_ok-push.ensures.items
    ∙ append_assoc before ((c.group_of.result, p) ∷ []) later
    ∙ ap (λ g. before ++ ((g, p) ∷ later)) (c.group_of.ensures ∙ ap group_of c.as_bytes.ensures.value)
    ∙ ap (λ t. before ++ ((group_of (string_bytes t), p) ∷ later)) c.text-item.is
    ∙ sym (at_drop_more (λ rest. before ++ entries_of p (tokens_of rest)) texts i
    c.text-item.result c.loop-text-test.true)
    ∙ c.loop-text.invariant

pub returns : goal.returns
returns c = grind (arith, common_steps)
